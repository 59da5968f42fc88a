-- A body is read as the message that its words say. Assumes nothing.
use Rattle.std.proofs.Common.{◌≡◌, ℕ, ◌+◌, List, length, Some}
use Rattle.std.proofs.lemmas.Bool.{eq-eqb}
use Rattle.text.specs.declared.places.Position.{Position}
use Rattle.wire.specs.Words.{field_at}
use Rattle.requests.specs.Messages.{up_open, up_type, up_replace, up_save, up_close, up_ask_full, up_ask_delta}
use Rattle.requests.specs.Bodies.{opening_at, count_at, value_at, position, position_at, text_at, reading}

pub place_read : (bs : List ℕ) (i l c : ℕ) → value_at bs i 4 ≡ Some l → value_at bs (i + 4) 5 ≡ Some c → position_at bs i ≡ Some (position l c)
place_read bs i l c a b = rw (a, b)

module _ (bs : List ℕ) (o : ℕ) (has : opening_at bs ≡ Some o) where
  pub open_read : (t : List ℕ) → value_at bs 0 1 ≡ Some 1 → field_at bs 8 3 1 1 ≡ Some 1 → text_at bs 12 ≡ Some t → reading bs ≡ Some (up_open o t)
  open_read t a b c = rw (a, has, b, c)

  pub type_read : (v : ℕ) (p q : Position) (t : List ℕ) → value_at bs 0 1 ≡ Some 2 → count_at bs 8 3 ≡ Some v → position_at bs 12 ≡ Some p → position_at bs 20 ≡ Some q → text_at bs 28 ≡ Some t
      → reading bs ≡ Some (up_type o v (record { start = p; end = q }) t)
  type_read v p q t a b c d e = rw (a, has, b, c, d, e)

  pub replace_read : (v : ℕ) (t : List ℕ) → value_at bs 0 1 ≡ Some 3 → count_at bs 8 3 ≡ Some v → text_at bs 12 ≡ Some t → reading bs ≡ Some (up_replace o v t)
  replace_read v t a b c = rw (a, has, b, c)

  pub save_read : (v : ℕ) → value_at bs 0 1 ≡ Some 4 → count_at bs 8 3 ≡ Some v → length bs ≡ 12 → reading bs ≡ Some (up_save o v)
  save_read v a b l = let e = eq-eqb (length bs) 12 l in rw (a, has, b, e)

  pub close_read : value_at bs 0 1 ≡ Some 5 → length bs ≡ 8 → reading bs ≡ Some (up_close o)
  close_read a l = let e = eq-eqb (length bs) 8 l in rw (a, has, e)

  pub ask_full_read : (r : ℕ) → value_at bs 0 1 ≡ Some 6 → count_at bs 8 6 ≡ Some r → length bs ≡ 12 → reading bs ≡ Some (up_ask_full o r)
  ask_full_read r a b l = let e = eq-eqb (length bs) 12 l in rw (a, has, b, e)

  pub ask_delta_read : (r i : ℕ) → value_at bs 0 1 ≡ Some 7 → count_at bs 8 6 ≡ Some r → count_at bs 12 7 ≡ Some i → length bs ≡ 16 → reading bs ≡ Some (up_ask_delta o r i)
  ask_delta_read r i a b c l = let e = eq-eqb (length bs) 16 l in rw (a, has, b, c, e)
