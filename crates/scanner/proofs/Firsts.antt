-- Readings by what the first byte opens. Assumes nothing.
use Rattle.std.proofs.Common.{◌≡◌, ℕ, ◌+◌, ◌-◌, ◌<◌, Bool, true, false, cond, eqb, List, [], ◌∷◌, length, get_or, Some, None, Option, sym, refl, ap, ◌∙◌, subst, arith}
use Rattle.std.specs.List.{prefix_len}
use Rattle.std.specs.Option.{option_and_then}
use Rattle.std.proofs.lemmas.List.Sums.{prefix_len-le-length, prefix_len_passes}
use Rattle.std.proofs.lemmas.Bool.{cond-true, eqb-true}
use Rattle.text.specs.Lines.{is_end, content}
use Rattle.languages.specs.declared.token.TokenType.{TokenType}
use Rattle.languages.specs.Types.{type_number}
use Rattle.scanner.specs.declared.piece.Piece.{Piece}
use Rattle.scanner.specs.Pieces.{plain}
use Rattle.scanner.specs.Scan.{Reading, by_first, Starts, Sound}

pub none_left : {C : Type 0} (opens : ℕ → Option C) (read_as : C → Reading) (clear : Bool) (s : List ℕ) → true ≡ eqb (length s) 0 → None ≡ by_first opens read_as clear (content s)
none_left opens read_as clear [] h = refl
none_left opens read_as clear (b ∷ bs) h = absurd (omega (arith, eqb-true (length (b ∷ bs)) 0 (sym h)))

-- what the first byte opens tells what starts there, also at a line end, which starts nothing
pub by_first_lem : {C : Type 0} (opens : ℕ → Option C) (read_as : C → Reading) → ((b : ℕ) → is_end b ≡ true → (clear : Bool) → option_and_then (λ c. read_as c clear []) (opens b) ≡ None)
    → (o : Option C) (clear : Bool) (s : List ℕ) → false ≡ eqb (length s) 0 → o ≡ opens (get_or s 0 0)
    → option_and_then (λ c. read_as c clear (content s)) o ≡ by_first opens read_as clear (content s)
by_first_lem opens read_as nothing o clear [] h e = absurd (cc)
by_first_lem {C} opens read_as nothing o clear (b ∷ bs) h e =
    let on : List ℕ → Option C → Option Piece = λ line. option_and_then (λ c. read_as c clear line) in
    ap (on (content (b ∷ bs))) e ∙ (elim (is_end b) as (λ v. is_end b ≡ v → on (cond v [] (b ∷ content bs)) (opens b) ≡ by_first opens read_as clear (cond v [] (b ∷ content bs))) [
      | true ↦ λ l. nothing b l clear
      | false ↦ λ _. refl
    ]) refl

-- such a reading is sound if each piece that is opened is
pub by_first_sound : {C : Type 0} (opens : ℕ → Option C) (read_as : C → Reading) (kinds : ℕ)
    → ((c : C) (b : ℕ) → opens b ≡ Some c → (clear : Bool) (bs : List ℕ) (p : Piece) → read_as c clear (b ∷ bs) ≡ Some p → Starts (b ∷ bs) kinds p)
    → Sound (by_first opens read_as) kinds
by_first_sound opens read_as kinds starts clear [] p e = absurd (cc)
by_first_sound opens read_as kinds starts clear (b ∷ bs) p e =
    (elim (opens b) as (λ v. opens b ≡ v → option_and_then (λ c. read_as c clear (b ∷ bs)) v ≡ Some p → Starts (b ∷ bs) kinds p) [
      | None ↦ λ o e. absurd (cc)
      | Some c ↦ λ o e. starts c b o clear bs p e
    ]) refl e

-- a run of ASCII characters that has one is sound
pub run_starts : (p : ℕ → Bool) → ((b : ℕ) → p b ≡ true → b < 128) → (b : ℕ) (bs : List ℕ) (kinds : ℕ) (kind : TokenType) (modifiers : ℕ) → p b ≡ true → type_number kind < kinds → modifiers < 1024
    → Starts (b ∷ bs) kinds (record { length = prefix_len p (b ∷ bs); kind = kind; modifiers = modifiers })
run_starts p low b bs kinds kind modifiers e k m =
    let n : prefix_len p (b ∷ bs) ≡ 1 + prefix_len p bs = cond-true (p b) _ _ e in
    record {
      some = omega arith;
      inside = prefix_len-le-length p (b ∷ bs);
      closed = λ l. low _ (prefix_len_passes p (b ∷ bs) (prefix_len p (b ∷ bs) - 1) 0 (omega arith));
      known = k;
      small = m;
    }

-- so is a single ASCII character
pub one_starts : (b : ℕ) (bs : List ℕ) (kinds : ℕ) (kind : TokenType) → b < 128 → type_number kind < kinds → Starts (b ∷ bs) kinds (plain 1 kind)
one_starts b bs kinds kind low k = record { some = omega arith; inside = omega arith; closed = λ _. low; known = k; small = omega arith }

pub same_piece : {line : List ℕ} {kinds : ℕ} (q p : Piece) → Some q ≡ Some p → Starts line kinds q → Starts line kinds p
same_piece {line} {kinds} q p e s = subst (Starts line kinds) (cc) s
