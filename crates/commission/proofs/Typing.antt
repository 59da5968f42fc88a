-- A change of a session's text is refused or taken as the library's change of its memory. Assumes nothing.
use Rattle.std.proofs.Common.{◌≡◌, ℕ, ◌≤◌, Bool, true, false, not, ◌||◌, ltb, List, [], ◌∷◌, ◌++◌, length, take, drop, vec_items, vec_len, Some, Option, sym, refl, ap, ◌∙◌, arith}
use Rattle.std.specs.Option.{is_some, unwrap_or}
use Rattle.std.specs.List.{AllByRecursion}
use Rattle.std.specs.Vec.{with_items}
use Rattle.std.proofs.lemmas.List.{take-take, length-take, length-take-le}
use Rattle.std.proofs.lemmas.Bool.{ltb-false, le-ltb, or_parts}
use Rattle.refusals.specs.Outcomes.{refused, taken, settle}
use Rattle.refusals.proofs.Settles.{settle_taken, settle_refused, settle_on, settle_stop, settle_passes}
use Rattle.text.specs.Places.{Range}
use Rattle.text.specs.Positions.{Changed, limit, text_checks, range_checks, typed, unsound, change_rule, leaves}
use Rattle.utf8.specs.Grammar.{well_formed}
use Rattle.commission.specs.declared.session.Session.{Session}
use Rattle.chosen.specs.Names.{units_of}
use Rattle.commission.specs.Rules.{View, view, holding, unfit, ready_checks, ready_rule, type_rule}
use Rattle.commission.proofs.Views.{front}

or_same : (a b c : Bool) → (a ≡ false → b ≡ c) → (a || b) ≡ (a || c)
or_same true b c h = refl
or_same false b c h = h refl

-- the test of the lent memory is the test of what the session shows
pub fitness : (items : List ℕ) (n lent : ℕ) → lent ≤ length items → n ≤ limit → unsound (take lent items) n ≡ (ltb lent limit || not (well_formed (take n items)))
fitness items n lent h l =
    let rest = ltb limit n || not (well_formed (take n (take lent items))) in
    ap (λ k. ltb k limit || rest) (length-take-le lent items h)
    ∙ or_same (ltb lent limit) rest (not (well_formed (take n items)))
    (λ e. let room = ltb-false lent limit e in
    ap (λ b. b || not (well_formed (take n (take lent items)))) (le-ltb limit n l) ∙ ap (λ t. not (well_formed t)) (take-take n lent items (omega arith)))

-- no check fits
abbrev pub Clear : List (ℕ × Bool) → Type 0
Clear cs = AllByRecursion (λ c. c.1 ≡ false) cs

clear_taken : {M S : Type 0} (m : M) (s : S) (cs : List (ℕ × Bool)) → Clear cs → settle cs m s ≡ taken s
clear_taken m s [] h = refl
clear_taken m s (c ∷ cs) h = rw h.0 (clear_taken m s cs h.1)

-- the same, with the list of checks first
pub all_past : {M S : Type 0} (cs : List (ℕ × Bool)) (m : M) (s : S) → Clear cs → settle cs m s ≡ taken s
all_past cs m s h = clear_taken m s cs h

module _ (v : View) (r : Range) (new : List ℕ) where
  abbrev pub u : ℕ → ℕ
  u = units_of v.encoding

  -- the checks of the positions and of the new text, where t is the old one
  abbrev later : List ℕ → List (ℕ × Bool)
  later t = range_checks u t r ++ ((15, ltb limit (length (typed u t r new))) ∷ [])

  abbrev taken_text : View
  taken_text = holding (typed u v.text r new) v

  abbrev left : List ℕ → List ℕ → Changed
  left t memory = record { size = length (typed u t r new); text = typed u t r new; beyond = drop limit memory }

  type_is : Clear (ready_checks (unfit v) v.opened new) → type_rule v r new ≡ settle (later v.text) v taken_text
  type_is clear =
      let checks = ready_checks (unfit v) v.opened new in
      settle_on v taken_text v taken_text (later v.text) checks taken_text (clear_taken v taken_text checks clear)

  change_is : (memory : List ℕ) (n : ℕ) → Clear ((1, unsound memory n) ∷ text_checks new) → take n memory ≡ v.text → change_rule u memory n r new ≡ settle (later v.text) memory (left v.text memory)
  change_is memory n clear same =
      let checks = (1, unsound memory n) ∷ text_checks new in
      let changed = left (take n memory) memory in
      settle_on memory changed memory changed (later (take n memory)) checks changed (clear_taken memory changed checks clear)
      ∙ ap (λ t. settle (later t) memory (left t memory)) same

-- the size of a session's text, 0 where there is none
abbrev pub held : Session → ℕ
held s = unwrap_or s.size 0

-- what a session shows with another size and other bytes in its memory
abbrev shows : Session → Option ℕ → List ℕ → View
shows s n items = record { encoding = s.encoding; tongue = s.tongue; called = s.called; opened = is_some n; text = take (unwrap_or n 0) items; lent = s.lent }

-- memory is what the library is lent
module _ (s : Session) (r : Range) (new memory : List ℕ) (is : memory ≡ take s.lent (vec_items s.memory)) where
  fits : unsound memory (held s) ≡ unfit (view s)
  fits =
      let long = s.memory.ok.0 in
      ap (λ m. unsound m (held s)) is ∙ fitness (vec_items s.memory) (held s) s.lent (omega (arith, s.within)) s.short

  pub not_ready : (k : ℕ) → refused k tt ≡ ready_rule (unsound memory (held s)) (is_some s.size) new → refused k (view s) ≡ type_rule (view s) r new
  not_ready k e =
      let checks = ready_checks (unfit (view s)) (is_some s.size) new in
      sym (settle_stop (tt {0}) (tt {0}) (view s) (taken_text (view s) r new) (later (view s) r new (view s).text) checks k tt (sym (e ∙ ap (λ b. ready_rule b (is_some s.size) new) fits)))

  module _ (x : Unit {0}) (ready : taken x ≡ ready_rule (unsound memory (held s)) (is_some s.size) new) where
    clear : Clear (ready_checks (unsound memory (held s)) (is_some s.size) new)
    clear = settle_passes (tt {0}) (tt {0}) (ready_checks (unsound memory (held s)) (is_some s.size) new) x (sym ready)

    room : (limit ≤ length memory) × (length memory ≤ vec_len s.memory) × (take (held s) memory ≡ (view s).text)
    room =
        let kept = s.memory.ok.0 in
        let long : length memory ≡ s.lent = ap length is ∙ length-take-le s.lent (vec_items s.memory) (omega (arith, s.within)) in
        let wide = ltb-false (length memory) limit (or_parts (ltb (length memory) limit) (ltb limit (held s) || not (well_formed (take (held s) memory))) clear.0).0 in
        (wide, omega (arith, s.within), ap (take (held s)) is ∙ take-take (held s) s.lent (vec_items s.memory) (omega (arith, s.short)))

    type_here : type_rule (view s) r new ≡ settle (later (view s) r new (view s).text) (view s) (taken_text (view s) r new)
    type_here = type_is (view s) r new (sym fits ∙ clear.0, clear.1)

    change_here : change_rule (units_of s.encoding) memory (held s) r new ≡ settle (later (view s) r new (view s).text) memory (left (view s) r new (view s).text memory)
    change_here = change_is (view s) r new memory (held s) (clear.0, (clear.1.0, (clear.1.1.0, tt))) room.2

    pub changed : (k : ℕ) (after rest : List ℕ) → k ≤ limit → taken (leaves after k) ≡ change_rule (units_of s.encoding) memory (held s) r new → taken (shows s (Some k) (with_items s.memory (after ++ rest)).items) ≡ type_rule (view s) r new
    changed k after rest small e =
        let h = settle_taken memory (left (view s) r new (view s).text memory) (view s) (taken_text (view s) r new) (later (view s) r new (view s).text) (leaves after k) (sym (e ∙ change_here)) in
        let wide = room in
        let text = ap (λ (x : Changed). x.text) h.0 in
        let size = ap (λ (x : Changed). x.size) h.0 in
        let long : k ≤ length after = omega (arith, simp length-take at (ap length text)) in
        ap (λ t. taken (record { encoding = s.encoding; tongue = s.tongue; called = s.called; opened = true; text = t; lent = s.lent })) (front s.memory k after rest (omega arith) long ∙ text)
        ∙ sym (type_here ∙ h.1)

    pub unchanged : (k : ℕ) (after rest : List ℕ) → refused k after ≡ change_rule (units_of s.encoding) memory (held s) r new → refused k (shows s s.size (with_items s.memory (after ++ rest)).items) ≡ type_rule (view s) r new
    unchanged k after rest e =
        let h = settle_refused memory (left (view s) r new (view s).text memory) (view s) (taken_text (view s) r new) (later (view s) r new (view s).text) k after (sym (e ∙ change_here)) in
        let wide = room in
        let long = ap length h.0 in
        let text = front s.memory (held s) after rest (omega (arith, s.short)) (omega (arith, s.short)) ∙ ap (take (held s)) h.0 ∙ wide.2 in
        ap (λ t. refused k (record { encoding = s.encoding; tongue = s.tongue; called = s.called; opened = is_some s.size; text = t; lent = s.lent })) text ∙ sym (type_here ∙ h.1)
