use Rattle.std.proofs.Common.{◌≢◌, ℕ, List, ◌++◌, Bor, sym, subst, refl}
use Rattle.std.proofs.lemmas.Bool.Decides.{Decides-eqb}
use Rattle.std.proofs.lemmas.List.Elements.{All-more}
use Rattle.std.proofs.lemmas.Slice.Eq.{strip_prefix_is}
use Rattle.notation.proofs.name.read_name.Goals as goal

pub returns-in-Some : goal.returns-in-Some
returns-in-Some g c = record {
  place = c.loop-name.name-index;
  entry = c.loop-name-item.result;
  there = c.loop-name-test.true;
  is = sym c.loop-name-item.is;
  value = refl;
  whole = rw c.in-Some.is at (strip_prefix_is Decides-eqb c.args.from.now c.loop-name-item.result.0.now c.strip_prefix.result c.strip_prefix.ensures.cases);
  first = c.loop-name.invariant;
}

pub loop-name-preserved : goal.loop-name-preserved
loop-name-preserved g c =
    let here = rw c.in_default.is at (strip_prefix_is Decides-eqb c.args.from.now c.loop-name-item.result.0.now c.strip_prefix.result c.strip_prefix.ensures.cases) in
    let P : Bor (List ℕ) × g.row.T.Denot → Type 0 = λ n. (rest : List ℕ) → c.args.from.now ≢ n.0.now ++ rest in
    All-more P c.args.names.now c.loop-name.name-index c.loop-name-item.result c.loop-name-test.true c.loop-name.invariant (subst P c.loop-name-item.is here)
