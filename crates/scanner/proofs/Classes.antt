-- Runs of a class of bytes: every class lies in its line, and two have ASCII bytes only. Assumes nothing.
use Rattle.std.proofs.Common.{◌≡◌, ℕ, ◌+◌, ◌<◌, Bool, true, false, cond, not, List, [], ◌∷◌, length, get_or, take, sym, refl, ap, ◌∙◌, arith}
use Rattle.std.specs.List.{prefix_len}
use Rattle.std.proofs.lemmas.List.Sums.{prefix_len-le-length, prefix_len_passes}
use Rattle.std.proofs.lemmas.Bool.Decides.{nat_tests}
use Rattle.text.specs.Lines.{is_end, content}
use Rattle.scanner.specs.declared.runs.Run.{Run}
use Rattle.scanner.specs.declared.runs.Run.TheVariants.{Word, Digits, Content, Unquoted}
use Rattle.scanner.specs.Runs.{belongs}
use Rattle.scanner.proofs.Contents.{take_content}

-- no class has a byte that ends a line
ends_run : (run : Run) (b : ℕ) → is_end b ≡ true → belongs run b ≡ false
ends_run Word b e = grind (arith, nat_tests)
ends_run Digits b e = grind (arith, nat_tests)
ends_run Content b e = ap not e
ends_run Unquoted b e = grind (arith, nat_tests)

pub word_low : (b : ℕ) → belongs Word b ≡ true → b < 128
word_low b e = grind (arith, nat_tests)

pub digit_low : (b : ℕ) → belongs Digits b ≡ true → b < 128
digit_low b e = grind (arith, nat_tests)

-- so a run in the text is the run in the line's content
pub run_content : (run : Run) (s : List ℕ) → prefix_len (belongs run) s ≡ prefix_len (belongs run) (content s)
run_content run [] = refl
run_content run (b ∷ bs) = (elim (is_end b) as (λ v. is_end b ≡ v → prefix_len (belongs run) (b ∷ bs) ≡ prefix_len (belongs run) (cond v [] (b ∷ content bs))) [
  | true ↦ λ e. rw (ends_run run b e)
  | false ↦ λ e. ap (λ (n : ℕ). cond (belongs run b) (1 + n) 0) (run_content run bs)
]) refl

pub all_content : (s : List ℕ) → prefix_len (belongs Content) s ≡ length (content s)
all_content [] = refl
all_content (b ∷ bs) = elim (is_end b) as (λ v. cond (not v) (1 + prefix_len (belongs Content) bs) 0 ≡ length (cond v [] (b ∷ content bs))) [
  | true ↦ refl
  | false ↦ let h = all_content bs in omega arith
]

-- what the run covers
pub run_taken : (run : Run) (s : List ℕ) → take (prefix_len (belongs run) s) s ≡ take (prefix_len (belongs run) (content s)) (content s)
run_taken run s =
    ap (λ (n : ℕ). take n s) (run_content run s) ∙ sym (take_content (prefix_len (belongs run) (content s)) s (prefix_len-le-length (belongs run) (content s)))

-- each byte of a front passes its test
pub leading_in : (p : ℕ → Bool) (bs : List ℕ) (i : ℕ) → i < prefix_len p bs → p (get_or bs i 0) ≡ true
leading_in p bs i h = prefix_len_passes p bs i 0 h
