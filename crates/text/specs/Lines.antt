-- Lines of a text, defined on every list of bytes. Assumes nothing.
use Rattle.std.specs.Prelude.{◌≡◌, ℕ, zero, suc, ◌+◌, ◌<◌, Bool, false, cond, not, ◌&&◌, ◌||◌, List, [], ◌∷◌, drop, Some, None, Option, ◌==◌}
use Rattle.std.specs.Borrow.{Bor}
use Rattle.text.specs.declared.places.Place.{Place}

-- LF or CR
abbrev pub is_end : ℕ → Bool
is_end b = b == 10 || b == 13

-- a line ends right after the byte b, which t follows: after LF, and after CR unless LF comes next
abbrev pub ends : ℕ → List ℕ → Bool
ends b [] = is_end b
ends b (c ∷ t) = b == 10 || (b == 13 && not (c == 10))

-- a line ends right after the first byte
abbrev pub ends_at : List ℕ → Bool
ends_at [] = false
ends_at (b ∷ t) = ends b t

-- one byte further on
abbrev pub later : Option ℕ → Option ℕ
later None = None
later (Some n) = Some (suc n)

-- n bytes further on
abbrev pub ahead : ℕ → Option ℕ → Option ℕ
ahead n None = None
ahead n (Some m) = Some (n + m)

-- where line k starts, none where there is no such line
abbrev pub start_of : List ℕ → ℕ → Option ℕ
start_of t zero = Some 0
start_of [] (suc k) = None
start_of (b ∷ t) (suc k) = later (cond (ends b t) (start_of t k) (start_of t (suc k)))

-- one line, and one more for each line end
abbrev pub line_count : List ℕ → ℕ
line_count [] = 1
line_count (b ∷ t) = cond (ends b t) 1 0 + line_count t

-- the content of the first line: what stands before its end
abbrev pub content : List ℕ → List ℕ
content [] = []
content (b ∷ t) = cond (is_end b) [] (b ∷ content t)

abbrev pub content_from : List ℕ → Option ℕ → Option (List ℕ)
content_from t None = None
content_from t (Some n) = Some (content (drop n t))

-- the content of line k
abbrev pub content_of : List ℕ → ℕ → Option (List ℕ)
content_of t k = content_from t (start_of t k)

-- answers of the code, by what they hold
abbrev pub place_in : Option Place → Option ℕ
place_in None = None
place_in (Some p) = Some p.0

abbrev pub bytes_in : Option (Bor (List ℕ)) → Option (List ℕ)
bytes_in None = None
bytes_in (Some r) = Some r.now

-- a line is there exactly where its number is below the count
abbrev pub CountedLinesAreThere : Type 0
CountedLinesAreThere = (t : List ℕ) (k : ℕ) → (k < line_count t → (n : ℕ) × (start_of t k ≡ Some n)) × ((n : ℕ) → start_of t k ≡ Some n → k < line_count t)
