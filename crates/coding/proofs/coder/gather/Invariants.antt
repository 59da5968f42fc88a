use Rattle.std.proofs.Common.{◌≡◌, ◌+◌, ◌*◌, ◌≤◌, ◌++◌, map, length, take}
use Rattle.languages.specs.Tokens.{rest, tokens}
use Rattle.coding.specs.Placing.{placed, IsAt}
use Rattle.coding.specs.Coding.{code, fresh}
use Rattle.coding.proofs.coder.gather.Given as goal

abbrev pub invariant-loop-token : goal.invariant-loop-token
invariant-loop-token g l =
    let u = g.E.PositionEncoding.units l.encoding in
    let next = g.L.Language.next l.language in
    record {
      can : (goal.iterator-loop-token g).can_next l.token-iterator;
      ends : (goal.iterator-loop-token g).is_finite l.token-iterator;
      left : l.token-iterator ≡ rest next l.text.bytes.now l.cursor.«at»;
      slots_name : l.numbers.slots.ghost_name ≡ l.initial.numbers.slots.ghost_name;
      kept_length : length l.numbers.slots.now ≡ length l.initial.numbers.slots.now;
      so_far : take l.numbers.used l.numbers.slots.now ++ code l.before.line l.before.column (map (placed u l.text.bytes.now) l.token-iterator) ≡ fresh u next l.text.bytes.now;
      used : l.numbers.used + 5 * length l.token-iterator ≡ 5 * length (tokens next l.text.bytes.now);
      here : IsAt u l.text.bytes.now l.cursor;
      within : l.cursor.«at» ≤ length l.text.bytes.now;
    }
