-- Reading a frame, and the frame of a body. Assumes nothing.
use Rattle.std.proofs.Common.{◌≡◌, ℕ, ◌+◌, ◌-◌, ◌≤◌, true, false, eqb, List, ◌++◌, length, take, drop, Some, None, Option, refl, ap, ◌∙◌, arith, length-append, length-drop, take-append-drop}
use Rattle.std.specs.List.{AllByRecursion}
use Rattle.std.proofs.lemmas.List.{take_rest, drop_at}
use Rattle.std.proofs.lemmas.Bool.{and_parts, eqb-true, eq-eqb, not-false}
use Rattle.std.proofs.lemmas.Slice.Eq.{bytes_eq-Decides}
use Rattle.refusals.specs.Outcomes.{Outcome, refused, taken}
use Rattle.refusals.proofs.Settles.{settle_taken, settle_passes}
use Rattle.wire.specs.Headers.{body_limit, heading, announced, headed, header_checks, header_rule}
use Rattle.wire.specs.Frames.{frame_of, told, behind, read_frame}
use Rattle.wire.proofs.Announcing.{headers_announce}

module _ {S : Type 0} (reads : List ℕ → Option S) (bs : List ℕ) where
  -- behind a good header, the message of the bytes there
  pub read_behind : (start : ℕ) (o : Option S) → taken start ≡ header_rule bs → o ≡ reads (take (length bs - start) (drop start bs)) → told o ≡ read_frame reads bs
  read_behind start o e h = ap told (h ∙ ap reads (take_rest bs start)) ∙ ap (behind reads bs) e

-- the frame of a body has a good header
framed : (body : List ℕ) → length body ≤ body_limit → header_rule (frame_of body) ≡ taken (length (heading (length body)))
framed body few =
    let bs = frame_of body in
    let h = headers_announce (length body) body few in
    let is : announced bs ≡ length body = h.0 in
    let good : headed bs (length body) ≡ true = h.1 in
    let long : eqb (length bs) (length (heading (length body)) + length body) ≡ true = eq-eqb _ _ (length-append (heading (length body)) body) in
    rw (is, good, long)

-- a body that is read as a message is so in its frame
pub read_framed : {S : Type 0} (reads : List ℕ → Option S) (body : List ℕ) (m : S) → length body ≤ body_limit → reads body ≡ Some m → read_frame reads (frame_of body) ≡ taken m
read_framed reads body m few e =
    ap (behind reads (frame_of body)) (framed body few) ∙ ap (λ b. told (reads b)) (drop_at (heading (length body)) body (length (heading (length body))) refl) ∙ ap told e

-- what a good header says of the bytes

module _ (bs : List ℕ) (start : ℕ) (e : header_rule bs ≡ taken start) where
  abbrev n : ℕ
  n = announced bs

  passes : AllByRecursion (λ c. c.1 ≡ false) (header_checks bs)
  passes = settle_passes (tt {0}) (length (heading n)) (header_checks bs) start e

  start_is : start ≡ length (heading n)
  start_is = (settle_taken (tt {0}) (length (heading n)) (tt {0}) (length (heading n)) (header_checks bs) start e).0

  front : heading n ≡ take (length (heading n)) bs
  front = (bytes_eq-Decides (heading n) (take (length (heading n)) bs)).0 (and_parts _ _ (not-false _ passes.0)).1

  long : length bs ≡ length (heading n) + n
  long = eqb-true _ _ (not-false _ passes.1.0)

  -- they are the frame of what stands behind it
  pub framed_back : frame_of (drop start bs) ≡ bs
  framed_back =
      let size : length (drop start bs) ≡ n = omega (arith, length-drop start bs, start_is, long) in
      (λ i. heading (size i) ++ drop (start_is i) bs) ∙ ap (λ h. h ++ drop (length (heading n)) bs) front ∙ take-append-drop (length (heading n)) bs

module _ {S : Type 0} (reads : List ℕ → Option S) (bs : List ℕ) (m : S) where
  some_told : (o : Option S) → told o ≡ taken m → o ≡ Some m
  some_told None e = absurd (cc)
  some_told (Some x) e = cc

  -- bytes that are read as a message are the frame of a body that is
  pub frame_read : {R : Type 0} → read_frame reads bs ≡ taken m → ((body : List ℕ) (start : ℕ) → body ≡ drop start bs → frame_of body ≡ bs → reads body ≡ Some m → R) → R
  frame_read {R} e k = by (header_rule bs) refl e
    where
      by : (o : Outcome (Unit {0}) ℕ) → header_rule bs ≡ o → behind reads bs o ≡ taken m → R
      by (refused j x) h e = absurd (cc)
      by (taken start) h e = k (drop start bs) start refl (framed_back bs start h) (some_told (reads (drop start bs)) e)
