use Rattle.std.proofs.Common.{ℕ, ◌<◌, get_or, sym, ◌∙◌, arith}
use Rattle.utf8.proofs.Chars.{no_char, none_begins, begins_one, at_ones, other_ones}
use Rattle.utf8.proofs.character.Goals as goal

pub returns-in_default : goal.returns-in_default
returns-in_default c = none_begins c.args.bytes.now (omega arith)

pub two-requires : goal.two-requires
two-requires c = let o = at_ones _ 2 (omega (arith, c.type_inv.bytes 0)) (sym c.in-2.is ∙ c.leading_ones.ensures) 6 (omega arith) in record { low = omega arith; high = omega arith }

pub three-requires : goal.three-requires
three-requires c = let o = at_ones _ 3 (omega (arith, c.type_inv.bytes 0)) (sym c.in-3.is ∙ c.leading_ones.ensures) 5 (omega arith) in record { low = omega arith; high = omega arith }

pub four-requires : goal.four-requires
four-requires c = let o = at_ones _ 4 (omega (arith, c.type_inv.bytes 0)) (sym c.in-4.is ∙ c.leading_ones.ensures) 4 (omega arith) in record { low = omega arith; high = omega arith }

pub returns-in-0 : goal.returns-in-0
returns-in-0 c =
    let o = at_ones _ 0 (omega (arith, c.type_inv.bytes 0)) (sym c.in-0.is ∙ c.leading_ones.ensures) 8 (omega arith) in
    begins_one c.args.bytes.now (omega arith) (omega arith)

pub returns-in_default-leading_ones : goal.returns-in_default-leading_ones
returns-in_default-leading_ones c =
    let b : ℕ = get_or c.args.bytes.now 0 0 in
    let byte : b < 256 = omega (arith, c.type_inv.bytes 0) in
    let o = other_ones b c.leading_ones.result byte c.leading_ones.ensures (λ e. omega arith) (λ e. omega arith) (λ e. omega arith) (λ e. omega arith) in
    no_char c.args.bytes.now (λ r. let s = (r.second o.0).1 in o.1 s.least s.most)
