-- The body of a message that goes up: what is written of it, and what is read from bytes. Assumes nothing.
use Rattle.std.specs.Prelude.{ℕ, ◌+◌, cond, List, [], ◌∷◌, ◌++◌, length, drop, Some, None, Option, ◌==◌}
use Rattle.text.specs.declared.places.Position.{Position}
use Rattle.wire.specs.declared.words.Word.{Word}
use Rattle.wire.specs.Words.{field_at, words}
use Rattle.requests.specs.Messages.{Up, text_of, up_open, up_type, up_replace, up_save, up_close, up_ask_full, up_ask_delta}

abbrev pub word : ℕ → ℕ → Word
word k v = record { 0 = k; 1 = v }

abbrev pub position_words : Position → List Word → List Word
position_words p ws = word 4 p.line ∷ (word 5 p.character.0 ∷ ws)

-- the words of a message. The kinds: 1 the message, 2 the opening, 3 the version, 4 a line, 5 a character, 6 the request,
-- 7 the result, 8 the length of the text that ends the body
abbrev pub words_of : Up → List Word
words_of (up_open o t) = word 1 1 ∷ (word 2 o ∷ (word 3 1 ∷ (word 8 (length t) ∷ [])))
words_of (up_type o v r t) = word 1 2 ∷ (word 2 o ∷ (word 3 v ∷ position_words r.start (position_words r.end (word 8 (length t) ∷ []))))
words_of (up_replace o v t) = word 1 3 ∷ (word 2 o ∷ (word 3 v ∷ (word 8 (length t) ∷ [])))
words_of (up_save o v) = word 1 4 ∷ (word 2 o ∷ (word 3 v ∷ []))
words_of (up_close o) = word 1 5 ∷ (word 2 o ∷ [])
words_of (up_ask_full o r) = word 1 6 ∷ (word 2 o ∷ (word 6 r ∷ []))
words_of (up_ask_delta o r i) = word 1 7 ∷ (word 2 o ∷ (word 6 r ∷ (word 7 i ∷ [])))

abbrev pub body_of : Up → List ℕ
body_of m = words (words_of m) ++ text_of m

-- reading, field by field

abbrev pub and : {X Y : Type 0} → Option X → (X → Option Y) → Option Y
and None f = None
and (Some x) f = f x

abbrev pub opening_at : List ℕ → Option ℕ
opening_at bs = field_at bs 4 2 1 4095

-- a version, a request or a result
abbrev pub count_at : List ℕ → ℕ → ℕ → Option ℕ
count_at bs i kind = field_at bs i kind 1 65535

abbrev pub value_at : List ℕ → ℕ → ℕ → Option ℕ
value_at bs i kind = field_at bs i kind 0 268435455

-- the text behind its length, which ends the body
abbrev pub text_at : List ℕ → ℕ → Option (List ℕ)
text_at bs i = and (value_at bs i 8) (λ n. cond (length bs == i + 4 + n) (Some (drop (i + 4) bs)) None)

abbrev pub ending : List ℕ → ℕ → Up → Option Up
ending bs n m = cond (length bs == n) (Some m) None

abbrev pub position : ℕ → ℕ → Position
position l c = record { line = l; character = record { 0 = c } }

abbrev pub reading_open : List ℕ → Option Up
reading_open bs = and (opening_at bs) (λ o. and (field_at bs 8 3 1 1) (λ v. and (text_at bs 12) (λ t. Some (up_open o t))))

abbrev pub position_at : List ℕ → ℕ → Option Position
position_at bs i = and (value_at bs i 4) (λ l. and (value_at bs (i + 4) 5) (λ c. Some (position l c)))

abbrev pub reading_type : List ℕ → Option Up
reading_type bs = and (opening_at bs) (λ o. and (count_at bs 8 3) (λ v. and (position_at bs 12) (λ a. and (position_at bs 20) (λ b. and (text_at bs 28) (λ t. Some (up_type o v (record { start = a; end = b }) t))))))

abbrev pub reading_replace : List ℕ → Option Up
reading_replace bs = and (opening_at bs) (λ o. and (count_at bs 8 3) (λ v. and (text_at bs 12) (λ t. Some (up_replace o v t))))

abbrev pub reading_save : List ℕ → Option Up
reading_save bs = and (opening_at bs) (λ o. and (count_at bs 8 3) (λ v. ending bs 12 (up_save o v)))

abbrev pub reading_close : List ℕ → Option Up
reading_close bs = and (opening_at bs) (λ o. ending bs 8 (up_close o))

abbrev pub reading_ask_full : List ℕ → Option Up
reading_ask_full bs = and (opening_at bs) (λ o. and (count_at bs 8 6) (λ r. ending bs 12 (up_ask_full o r)))

abbrev pub reading_ask_delta : List ℕ → Option Up
reading_ask_delta bs = and (opening_at bs) (λ o. and (count_at bs 8 6) (λ r. and (count_at bs 12 7) (λ i. ending bs 16 (up_ask_delta o r i))))

-- which message it is
abbrev pub read_as : ℕ → List ℕ → Option Up
read_as n bs =
    cond (n == 1) (reading_open bs)
    (cond (n == 2) (reading_type bs)
    (cond (n == 3) (reading_replace bs)
    (cond (n == 4) (reading_save bs)
    (cond (n == 5) (reading_close bs)
    (cond (n == 6) (reading_ask_full bs)
    (cond (n == 7) (reading_ask_delta bs) None))))))

abbrev pub reading : List ℕ → Option Up
reading bs = and (value_at bs 0 1) (λ n. read_as n bs)
