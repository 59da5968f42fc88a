-- Words one behind another. Assumes nothing.
use Rattle.std.proofs.Common.{◌≡◌, ℕ, zero, suc, ◌+◌, ◌*◌, ◌<◌, List, [], ◌∷◌, ◌++◌, length, get_or, take, sym, refl, ap, ◌∙◌, arith, length-append}
use Rattle.std.specs.List.{AllByRecursion}
use Rattle.std.proofs.lemmas.List.{append_assoc, append-nil, take_more}
use Rattle.wire.specs.declared.words.Word.{Word}
use Rattle.wire.specs.Words.{word_of, words, Fitting}

pub words_append : (xs ys : List Word) → words (xs ++ ys) ≡ words xs ++ words ys
words_append [] ys = refl
words_append (x ∷ xs) ys = ap (λ r. word_of x.0 x.1 ++ r) (words_append xs ys) ∙ sym (append_assoc (word_of x.0 x.1) (words xs) (words ys))

pub words_length : (ws : List Word) → length (words ws) ≡ 4 * length ws
unfolding word_of
words_length [] = refl
words_length (w ∷ ws) = length-append (word_of w.0 w.1) (words ws) ∙ omega (arith, words_length ws)

pub words_more : (ws : List Word) (i : ℕ) (d : Word) → i < length ws → words (take (i + 1) ws) ≡ words (take i ws) ++ word_of (get_or ws i d).0 (get_or ws i d).1
words_more ws i d lt = ap words (take_more ws i d lt) ∙ words_append (take i ws) (get_or ws i d ∷ []) ∙ ap (λ r. words (take i ws) ++ r) (append-nil (word_of (get_or ws i d).0 (get_or ws i d).1))

pub fitting_at : (ws : List Word) (i : ℕ) (d : Word) → AllByRecursion Fitting ws → i < length ws → Fitting (get_or ws i d)
fitting_at [] i d a lt = absurd (omega arith)
fitting_at (w ∷ ws) zero d a lt = a.0
fitting_at (w ∷ ws) (suc i) d a lt = fitting_at ws i d a.1 (omega arith)
