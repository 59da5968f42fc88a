-- Where lines start, and what a text's first lines say of the whole. Assumes nothing.
use Rattle.std.proofs.Common.{◌≡◌, ℕ, zero, suc, ◌<◌, ◌≤◌, true, false, cond, not, ◌&&◌, eqb, ◌⊎◌, List, [], ◌∷◌, ◌++◌, length, get_or, take, drop, Some, None, Option, sym, refl, ap, ◌∙◌, subst, inl, inr, ⊎_elim, arith}
use Rattle.std.proofs.lemmas.Bool.{cond-true, cond-false, cases_Bool, and_parts, or_cases}
use Rattle.text.specs.Lines.{is_end, ends, later, start_of, line_count, content, CountedLinesAreThere}

-- line k of a text starts at place n
pub data Starts : List ℕ → ℕ → ℕ → Type 0 where
  here : {t : List ℕ} → Starts t 0 0
  ended : {b : ℕ} {t : List ℕ} {k n : ℕ} → ends b t ≡ true → Starts t k n → Starts (b ∷ t) (suc k) (suc n)
  on : {b : ℕ} {t : List ℕ} {k n : ℕ} → ends b t ≡ false → Starts t (suc k) n → Starts (b ∷ t) (suc k) (suc n)

later_some : (o : Option ℕ) (n : ℕ) → later o ≡ Some n → (m : ℕ) × (o ≡ Some m) × (suc m ≡ n)
later_some None n e = absurd (cc)
later_some (Some m) n e = (m, refl, cc)

pub starts : (t : List ℕ) (k n : ℕ) → start_of t k ≡ Some n → Starts t k n
starts t zero n e = let z : 0 ≡ n = cc in subst (Starts t 0) z here
starts [] (suc k) n e = absurd (cc)
starts (b ∷ t) (suc k) n e =
    let f = later_some _ n e in
    ⊎_elim
    (λ y. subst (Starts (b ∷ t) (suc k)) f.2 (ended y (starts t k f.0 (sym (cond-true _ _ _ y) ∙ f.1))))
    (λ y. subst (Starts (b ∷ t) (suc k)) f.2 (on y (starts t (suc k) f.0 (sym (cond-false _ _ _ y) ∙ f.1))))
    (cases_Bool (ends b t))

pub start_is : {t : List ℕ} {k n : ℕ} → Starts t k n → start_of t k ≡ Some n
start_is here = refl
start_is (ended e r) = ap later (cond-true _ _ _ e ∙ start_is r)
start_is (on e r) = ap later (cond-false _ _ _ e ∙ start_is r)

pub start_within : {t : List ℕ} {k n : ℕ} → Starts t k n → (k ≤ n) × (n ≤ length t)
start_within here = (omega arith, omega arith)
start_within (ended e r) = let f = start_within r in (omega arith, omega arith)
start_within (on e r) = let f = start_within r in (omega arith, omega arith)

-- a line is there exactly where its number is below the count

some_line : (t : List ℕ) → 1 ≤ line_count t
some_line [] = omega arith
some_line (b ∷ t) = let h = some_line t in omega arith

there : (t : List ℕ) (k : ℕ) → k < line_count t → (n : ℕ) × Starts t k n
there t zero l = (0, here)
there [] (suc k) l = absurd (omega arith)
there (b ∷ t) (suc k) l =
    ⊎_elim
    (λ y. let h = there t k (omega (arith, cond-true {A = ℕ} _ 1 0 y)) in (suc h.0, ended y h.1))
    (λ y. let h = there t (suc k) (omega (arith, cond-false {A = ℕ} _ 1 0 y)) in (suc h.0, on y h.1))
    (cases_Bool (ends b t))

counted : {t : List ℕ} {k n : ℕ} → Starts t k n → k < line_count t
counted {t} here = let h = some_line t in omega arith
counted (ended e r) = let h = counted r in omega (arith, cond-true {A = ℕ} _ 1 0 e)
counted (on e r) = let h = counted r in omega (arith, cond-false {A = ℕ} _ 1 0 e)

pub counted_lines_are_there : CountedLinesAreThere
counted_lines_are_there t k = (λ l. let h = there t k l in (h.0, start_is h.1), λ n e. counted (starts t k n e))

-- a front of whole lines

ends_take : (b : ℕ) (t : List ℕ) (m : ℕ) → ends b t ≡ true → ends b (take m t) ≡ true
ends_take b [] zero e = e
ends_take b [] (suc m) e = e
ends_take b (c ∷ t) zero e = grind (arith, or_cases (eqb b 10) (eqb b 13 && not (eqb c 10)) e, and_parts (eqb b 13) (not (eqb c 10)))
ends_take b (c ∷ t) (suc m) e = e

ends_on : (b : ℕ) (t : List ℕ) (m : ℕ) → 0 < m → ends b (take m t) ≡ ends b t
ends_on b t zero l = absurd (omega arith)
ends_on b [] (suc m) l = refl
ends_on b (c ∷ t) (suc m) l = refl

start_pos : {t : List ℕ} {k n : ℕ} → Starts t k n → 0 < k → 0 < n
start_pos here l = l
start_pos (ended e r) l = omega arith
start_pos (on e r) l = omega arith

pub start_take : {t : List ℕ} {k n : ℕ} → Starts t k n → Starts (take n t) k n
start_take here = here
start_take (ended {b = b} {t = t} {n = n} e r) = ended (ends_take b t n e) (start_take r)
start_take (on {b = b} {t = t} {n = n} e r) = on (ends_on b t n (start_pos r (omega arith)) ∙ e) (start_take r)

ends_end : (b : ℕ) (t : List ℕ) → ends b t ≡ true → is_end b ≡ true
ends_end b [] e = e
ends_end b (c ∷ t) e = grind (arith, or_cases (eqb b 10) (eqb b 13 && not (eqb c 10)) e, and_parts (eqb b 13) (not (eqb c 10)))

-- a line starts at the text's start, or right behind a CR or LF
pub start_behind : {t : List ℕ} {k n : ℕ} → Starts t k n → (n ≡ 0) ⊎ ((i : ℕ) × (n ≡ suc i) × (i < length t) × (is_end (get_or t i 0) ≡ true))
start_behind here = inl refl
start_behind (ended {b = b} {t = t} e r) =
    ⊎_elim (λ z. inr (0, ap suc z, omega arith, ends_end b t e)) (λ h. inr (suc h.0, ap suc h.1, omega (arith, h.2), h.3)) (start_behind r)
start_behind (on e r) =
    ⊎_elim (λ z. let p = start_pos r (omega arith) in absurd (omega arith)) (λ h. inr (suc h.0, ap suc h.1, omega (arith, h.2), h.3)) (start_behind r)

-- a byte ends a line in the whole where it ends one in a front of at least one line more
pub front_ends : (b : ℕ) (y : List ℕ) {t : List ℕ} {k m : ℕ} → Starts t k m → 0 < k → ends b (t ++ y) ≡ ends b t
front_ends b y here l = absurd (omega arith)
front_ends b y (ended e r) l = refl
front_ends b y (on e r) l = refl

-- the first line of a front of at least one line has one content, whatever follows
content_front : (y z : List ℕ) {p : List ℕ} {k m : ℕ} → Starts p k m → 0 < k → content (p ++ y) ≡ content (p ++ z)
content_front y z here l = absurd (omega arith)
content_front y z (ended {b = b} {t = t} e r) l = let h = ends_end b t e in cond-true _ _ _ h ∙ sym (cond-true _ _ _ h)
content_front y z (on {b = b} e r) l = ap (λ c. cond (is_end b) [] (b ∷ c)) (content_front y z r (omega arith))

-- a line of a front that is not its last has one start and one content, whatever follows
pub record Same (p y z : List ℕ) (j : ℕ) : Type 0 where
  pub place : ℕ
  pub one : Starts (p ++ y) j place
  pub other : Starts (p ++ z) j place
  pub contents : content (drop place (p ++ y)) ≡ content (drop place (p ++ z))

pub same_front : (y z : List ℕ) {p : List ℕ} {k m : ℕ} → Starts p k m → (j : ℕ) → j < k → Same p y z j
same_front y z s zero l = record { place = 0; one = here; other = here; contents = content_front y z s l }
same_front y z here (suc j) l = absurd (omega arith)
same_front y z (ended {b = b} {t = t} e r) (suc j) l =
    let h = same_front y z {p = t} r j (omega arith) in
    record {
      place = suc h.place;
      one = ended (front_ends b y r (omega arith) ∙ e) h.one;
      other = ended (front_ends b z r (omega arith) ∙ e) h.other;
      contents = h.contents;
    }
same_front y z (on {b = b} {t = t} e r) (suc j) l =
    let h = same_front y z {p = t} r (suc j) l in
    record {
      place = suc h.place;
      one = on (front_ends b y r (omega arith) ∙ e) h.one;
      other = on (front_ends b z r (omega arith) ∙ e) h.other;
      contents = h.contents;
    }
