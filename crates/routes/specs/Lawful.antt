-- Routes keep the laws of languages. Assumes nothing.
use Rattle.std.specs.Prelude.{◌≡◌, ℕ, ◌+◌, ◌-◌, ◌<◌, Bool, true, ◌||◌, List, ◌∷◌, Some, None, Option, ◌==◌, slice_index}
use Rattle.std.proofs.Common.{subst, ap, arith}
use Rattle.std.proofs.lemmas.Bool.{cond_both, or_left}
use Rattle.std.proofs.lemmas.Bool.Decides.{nat_tests}
use Rattle.languages.specs.Types.{type_number}
use Rattle.languages.specs.Tokens.{LanguageLaws}
use Rattle.languages.specs.declared.token.TokenType.TheVariants as types
use Rattle.scanner.specs.declared.piece.Piece.{Piece}
use Rattle.scanner.specs.declared.runs.Run.TheVariants as runs
use Rattle.scanner.specs.Runs.{letter, digit, quote, belongs}
use Rattle.scanner.specs.Scan.{Starts, Sound}
use Rattle.scanner.proofs.Classes.{word_low, digit_low}
use Rattle.scanner.proofs.Firsts.{by_first_sound, run_starts, one_starts, same_piece}
use Rattle.scanner.proofs.Laws.{sound_readings_are_lawful}
use Rattle.routes.specs.declared.Opening.{Opening}
use Rattle.routes.specs.declared.Opening.TheVariants.{Comment, Word, Number, Operator, Quote}
use Rattle.routes.specs.Reading.{opens, through, read_as, routes_reading, routes_next}
use Rattle.routes.specs.Strings.{through_fits, through_closed}

-- what the opening tells of the byte
abbrev Told : Option Opening → ℕ → Type 0
Told (Some Comment) b = b < 128
Told (Some Word) b = belongs runs.Word b ≡ true
Told (Some Number) b = digit b ≡ true
Told (Some Operator) b = b < 128
Told (Some Quote) b = b < 128
Told None b = Unit {0}

told : (b : ℕ) → Told (opens b) b
told b =
    cond_both (b == 59) _ _ (λ o. Told o b) (λ e. grind (arith, nat_tests)) (λ _.
    cond_both (letter b) _ _ (λ o. Told o b) (λ e. or_left (letter b) (digit b) e) (λ _.
    cond_both (digit b) _ _ (λ o. Told o b) (λ e. e) (λ _.
    cond_both (b == 43 || b == 35) _ _ (λ o. Told o b) (λ e. grind (arith, nat_tests)) (λ _.
    cond_both (quote b) _ _ (λ o. Told o b) (λ e. grind (arith, nat_tests)) (λ _. tt)))))

told_of : (o : Opening) (b : ℕ) → opens b ≡ Some o → Told (Some o) b
told_of o b e = subst (λ v. Told v b) e (told b)

starts : (o : Opening) (b : ℕ) → opens b ≡ Some o → (clear : Bool) (bs : List ℕ) (p : Piece) → read_as o clear (b ∷ bs) ≡ Some p → Starts (b ∷ bs) 6 p
starts Comment b o clear bs p e = same_piece _ p e (record { some = omega arith; inside = omega arith; closed = λ l. absurd (omega arith); known = omega arith; small = omega arith })
starts Word b o clear bs p e =
    same_piece _ p e (run_starts (belongs runs.Word) word_low b bs 6 _ 0 (told_of Word b o) (cond_both _ types.Keyword types.Variable (λ k. type_number k < 6) (λ _. omega arith) (λ _. omega arith)) (omega arith))
starts Number b o clear bs p e = same_piece _ p e (run_starts (belongs runs.Digits) digit_low b bs 6 types.Number 0 (told_of Number b o) (omega arith) (omega arith))
starts Operator b o clear bs p e = same_piece _ p e (one_starts b bs 6 types.Operator (told_of Operator b o) (omega arith))
starts Quote b o clear bs p e =
    let f = through_fits bs in
    let k : 1 + through bs - 1 ≡ through bs = omega arith in
    same_piece _ p e (record {
      some = omega arith;
      inside = omega arith;
      closed = λ l. omega (arith, ap (λ (j : ℕ). slice_index (b ∷ bs) j) k, through_closed b bs (omega arith));
      known = omega arith;
      small = omega arith;
    })

sound : Sound routes_reading 6
sound = by_first_sound opens read_as 6 starts

pub routes_laws : LanguageLaws routes_next 6
routes_laws = sound_readings_are_lawful routes_reading 6 (omega arith) sound
