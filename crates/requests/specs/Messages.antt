-- What a message that goes up says, its text as bytes. Assumes nothing.
use Rattle.std.specs.Prelude.{ℕ, Bool, ◌&&◌, List, [], nat_le}
use Rattle.text.specs.Places.{Range}
use Rattle.text.specs.declared.places.Position.{Position}
use Rattle.requests.specs.declared.message.Request.{Request}
use Rattle.requests.specs.declared.message.Request.TheVariants.{Open, «Type» as Typed, Replace, Save, Close, AskFull, AskDelta}

pub data Up : Type 0 where
  up_open : (opening : ℕ) (text : List ℕ) → Up
  up_type : (opening version : ℕ) (range : Range) (text : List ℕ) → Up
  up_replace : (opening version : ℕ) (text : List ℕ) → Up
  up_save : (opening version : ℕ) → Up
  up_close : (opening : ℕ) → Up
  up_ask_full : (opening request : ℕ) → Up
  up_ask_delta : (opening request result : ℕ) → Up

abbrev pub meaning : Request → Up
meaning (Open o t) = up_open o t.now
meaning (Typed o v r t) = up_type o v r t.now
meaning (Replace o v t) = up_replace o v t.now
meaning (Save o v) = up_save o v
meaning (Close o) = up_close o
meaning (AskFull o r) = up_ask_full o r
meaning (AskDelta o r i) = up_ask_delta o r i

-- the ranges of values

abbrev pub between : ℕ → ℕ → ℕ → Bool
between low high n = nat_le low n && nat_le n high

abbrev pub openings : ℕ → Bool
openings = between 1 4095

-- versions, requests and results
abbrev pub counts : ℕ → Bool
counts = between 1 65535

-- lines and characters: what 28 bits hold
abbrev pub values : ℕ → Bool
values = between 0 268435455

abbrev pub positions : Position → Bool
positions p = values p.line && values p.character.0

-- every value of the message is in its range
abbrev pub ranged : Up → Bool
ranged (up_open o t) = openings o
ranged (up_type o v r t) = openings o && (counts v && (positions r.start && positions r.end))
ranged (up_replace o v t) = openings o && counts v
ranged (up_save o v) = openings o && counts v
ranged (up_close o) = openings o
ranged (up_ask_full o r) = openings o && counts r
ranged (up_ask_delta o r i) = openings o && (counts r && counts i)

abbrev pub text_of : Up → List ℕ
text_of (up_open o t) = t
text_of (up_type o v r t) = t
text_of (up_replace o v t) = t
text_of (up_save o v) = []
text_of (up_close o) = []
text_of (up_ask_full o r) = []
text_of (up_ask_delta o r i) = []
