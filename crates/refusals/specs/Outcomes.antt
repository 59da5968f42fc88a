-- How a call ends: refused by a number with all that was lent as it was, or taken. Assumes nothing.
use Rattle.std.specs.Prelude.{ℕ, Bool, cond, List, [], ◌∷◌, Ok, Err, Result}
use Rattle.refusals.specs.declared.Refusal.{Refusal}
use Rattle.refusals.specs.Numbers.{number_of}

-- M is all that was lent to the call, S what is stated of a call that is taken
pub data Outcome (M S : Type 0) : Type 0 where
  refused : ℕ → M → Outcome M S
  taken : S → Outcome M S

-- a call's checks are pairs of a number and a test, in their order: the first test that holds gives the
-- number, and everything is as it was; else the call is taken
abbrev pub settle : {M S : Type 0} → List (ℕ × Bool) → M → S → Outcome M S
settle [] m s = taken s
settle (c ∷ cs) m s = cond c.1 (refused c.0 m) (settle cs m s)

-- what a call that is lent m answered: f is what its answer states where it was taken
abbrev pub outcome : {X M S : Type 0} → (X → S) → Result X Refusal → M → Outcome M S
outcome f (Ok x) m = taken (f x)
outcome f (Err e) m = refused (number_of e) m
