-- Settings keep the laws of languages. Assumes nothing.
use Rattle.std.specs.Prelude.{◌≡◌, ℕ, ◌<◌, Bool, true, List, ◌∷◌, length, take, Some, None, Option, ◌==◌}
use Rattle.std.proofs.Common.{sym, subst, arith}
use Rattle.std.specs.List.{prefix_len}
use Rattle.std.proofs.lemmas.List.Folds.{length-prefix_len}
use Rattle.std.proofs.lemmas.Bool.{cond_both, or_left}
use Rattle.std.proofs.lemmas.Bool.Decides.{nat_tests}
use Rattle.languages.specs.declared.token.TokenType.{TokenType}
use Rattle.languages.specs.declared.token.TokenType.TheVariants as types
use Rattle.languages.specs.Types.{type_number}
use Rattle.languages.specs.Tokens.{LanguageLaws}
use Rattle.scanner.specs.declared.piece.Piece.{Piece}
use Rattle.scanner.specs.declared.runs.Run.TheVariants as runs
use Rattle.scanner.specs.Runs.{letter, digit, belongs}
use Rattle.scanner.specs.Scan.{Starts, Sound}
use Rattle.scanner.proofs.Classes.{word_low, digit_low}
use Rattle.scanner.proofs.Firsts.{by_first_sound, run_starts, one_starts, same_piece}
use Rattle.scanner.proofs.Laws.{sound_readings_are_lawful}
use Rattle.settings.specs.declared.Opening.{Opening}
use Rattle.settings.specs.declared.Opening.TheVariants.{Word, Number, Operator}
use Rattle.settings.specs.Reading.{opens, read_as, settings_reading, settings_next}

-- what the opening tells of the byte
abbrev Told : Option Opening → ℕ → Type 0
Told (Some Word) b = belongs runs.Word b ≡ true
Told (Some Number) b = digit b ≡ true
Told (Some Operator) b = b < 128
Told None b = Unit {0}

told : (b : ℕ) → Told (opens b) b
told b =
    cond_both (letter b) _ _ (λ o. Told o b) (λ e. or_left (letter b) (digit b) e) (λ _.
    cond_both (digit b) _ _ (λ o. Told o b) (λ e. e) (λ _.
    cond_both (b == 61) _ _ (λ o. Told o b) (λ e. grind (arith, nat_tests)) (λ _. tt)))

told_of : (o : Opening) (b : ℕ) → opens b ≡ Some o → Told (Some o) b
told_of o b e = subst (λ v. Told v b) e (told b)

word_starts : (b : ℕ) (bs : List ℕ) → opens b ≡ Some Word → (kind : TokenType) (modifiers : ℕ) → type_number kind < 7 → modifiers < 1024
    → Starts (b ∷ bs) 7 (record { length = length (take (prefix_len (belongs runs.Word) (b ∷ bs)) (b ∷ bs)); kind = kind; modifiers = modifiers })
word_starts b bs o kind modifiers k m =
    let n = length-prefix_len (belongs runs.Word) (b ∷ bs) in
    subst (λ (n : ℕ). Starts (b ∷ bs) 7 (record { length = n; kind = kind; modifiers = modifiers })) (sym n) (run_starts (belongs runs.Word) word_low b bs 7 kind modifiers (told_of Word b o) k m)

starts : (o : Opening) (b : ℕ) → opens b ≡ Some o → (clear : Bool) (bs : List ℕ) (p : Piece) → read_as o clear (b ∷ bs) ≡ Some p → Starts (b ∷ bs) 7 p
starts Word b o clear bs p e = same_piece _ p e (
    cond_both clear _ _ (Starts (b ∷ bs) 7) (λ _. word_starts b bs o types.Property 2 (omega arith) (omega arith)) (λ _.
    cond_both _ _ _ (Starts (b ∷ bs) 7) (λ _. word_starts b bs o types.Keyword 1 (omega arith) (omega arith)) (λ _. word_starts b bs o types.Variable 0 (omega arith) (omega arith))))
starts Number b o clear bs p e = same_piece _ p e (run_starts (belongs runs.Digits) digit_low b bs 7 types.Number 0 (told_of Number b o) (omega arith) (omega arith))
starts Operator b o clear bs p e = same_piece _ p e (one_starts b bs 7 types.Operator (told_of Operator b o) (omega arith))

sound : Sound settings_reading 7
sound = by_first_sound opens read_as 7 starts

pub settings_laws : LanguageLaws settings_next 7
settings_laws = sound_readings_are_lawful settings_reading 7 (omega arith) sound
