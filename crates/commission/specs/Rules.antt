-- What a session shows, and the rule of each call: its checks in their order, and what a taken call leaves. Assumes
-- nothing.
use Rattle.std.specs.Prelude.{ℕ, Bool, true, false, cond, not, ◌||◌, List, [], ◌∷◌, ◌++◌, length, take, vec_items, Some, None, Option, codes, decimal, nat_lt}
use Rattle.notation.specs.Texts.{written}
use Rattle.notation.specs.declared.encoding.Encoding.{Encoding}
use Rattle.notation.specs.declared.encoding.Encoding.TheVariants.{Utf16}
use Rattle.refusals.specs.Outcomes.{Outcome, settle}
use Rattle.text.specs.Places.{Range}
use Rattle.utf8.specs.Grammar.{well_formed}
use Rattle.text.specs.Lines.{line_count}
use Rattle.text.specs.Positions.{limit, text_checks, range_checks, typed}
use Rattle.commission.specs.declared.command.Call.{Call}
use Rattle.commission.specs.declared.command.Call.TheVariants.{Open, Replace, «Type»}
use Rattle.commission.specs.declared.command.Choice.{Choice}
use Rattle.commission.specs.declared.command.Choice.TheVariants.{Encoding as ChosenEncoding, Language}
use Rattle.commission.specs.declared.session.Session.{Session}
use Rattle.chosen.specs.Names.{units_of}
use Rattle.chosen.specs.declared.tongues.Tongue.{Tongue}
use Rattle.chosen.specs.declared.tongues.Tongue.TheVariants.{Routes}
use Rattle.std.specs.Option.{is_some, unwrap_or}

pub record View : Type 0 where
  pub encoding : Encoding
  pub tongue : Tongue
  pub called : Bool
  pub opened : Bool
  pub text : List ℕ
  pub lent : ℕ

-- the memory past the text is no part of it
abbrev pub view : Session → View
view s = record {
  encoding = s.encoding;
  tongue = s.tongue;
  called = s.called;
  opened = is_some s.size;
  text = take (unwrap_or s.size 0) (vec_items s.memory);
  lent = s.lent;
}

-- the same with another text at hand
abbrev pub holding : List ℕ → View → View
holding t v = record { encoding = v.encoding; tongue = v.tongue; called = v.called; opened = true; text = t; lent = v.lent }

-- the text, where there is one
abbrev pub at_hand : View → Option (List ℕ)
at_hand v = cond v.opened (Some v.text) None

-- no text and no call yet
abbrev pub started : ℕ → View
started n = record { encoding = Utf16; tongue = Routes; called = false; opened = false; text = []; lent = n }

abbrev pub encoded : Encoding → View → View
encoded e v = record { encoding = e; tongue = v.tongue; called = v.called; opened = v.opened; text = v.text; lent = v.lent }

abbrev pub speaking : Tongue → View → View
speaking t v = record { encoding = v.encoding; tongue = t; called = v.called; opened = v.opened; text = v.text; lent = v.lent }

abbrev pub choosing : Choice → View → View
choosing (ChosenEncoding e) v = encoded e v
choosing (Language t) v = speaking t v

abbrev pub lending : ℕ → View → View
lending n v = record { encoding = v.encoding; tongue = v.tongue; called = v.called; opened = v.opened; text = v.text; lent = n }

abbrev pub calling : View → View
calling v = record { encoding = v.encoding; tongue = v.tongue; called = true; opened = v.opened; text = v.text; lent = v.lent }

-- what is told of a text: how many lines and bytes it has, and the text
abbrev pub counted : ℕ → ℕ → List ℕ
counted lines bytes = codes "text lines=" ++ (decimal lines ++ (codes " bytes=" ++ (decimal bytes ++ codes " text=")))

abbrev pub telling : List ℕ → List ℕ
telling t = counted (line_count t) (length t) ++ written t

abbrev pub told : View → List ℕ
told v = cond v.opened (telling v.text) (codes "no text")

abbrev pub open_rule : View → List ℕ → Outcome View View
open_rule v t = settle (text_checks t ++ ((9, v.opened) ∷ [])) v (holding t v)

abbrev pub replace_rule : View → List ℕ → Outcome View View
replace_rule v t = settle (text_checks t ++ ((9, not v.opened) ∷ [])) v (holding t v)

-- the memory that is lent cannot keep every text, or what it keeps is none
abbrev pub unfit : View → Bool
unfit v = nat_lt v.lent limit || not (well_formed v.text)

-- what is checked of a change before its positions: the memory, the inserted text, and that there is a text
abbrev pub ready_checks : Bool → Bool → List ℕ → List (ℕ × Bool)
ready_checks bad opened new = (1, bad) ∷ (text_checks new ++ ((9, not opened) ∷ []))

abbrev pub ready_rule : Bool → Bool → List ℕ → Outcome (Unit {0}) (Unit {0})
ready_rule bad opened new = settle (ready_checks bad opened new) tt tt

abbrev pub type_rule : View → Range → List ℕ → Outcome View View
type_rule v r new =
    settle
    (ready_checks (unfit v) v.opened new ++ (range_checks (units_of v.encoding) v.text r ++ ((15, nat_lt limit (length (typed (units_of v.encoding) v.text r new))) ∷ [])))
    v (holding (typed (units_of v.encoding) v.text r new) v)

abbrev pub call_rule : View → Call → Outcome View View
call_rule v (Open t) = open_rule v (vec_items t)
call_rule v (Replace t) = replace_rule v (vec_items t)
call_rule v («Type» t) = type_rule v t.range (vec_items t.inserted)
