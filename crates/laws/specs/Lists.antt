-- Lists of bytes: an element by its place, bytes put at a place, and the rows of a frame.
-- Assumes nothing.
use Rattle.std.specs.Prelude.{List, ◌++◌, ℕ, ◌+◌, ◌*◌, length, get_or, take, drop}

-- what stands at place k of a list, 0 past its end
abbrev pub at : List ℕ → ℕ → ℕ
at l k = get_or l k 0

-- x written over what l has from place a on
unfoldable pub written : List ℕ → ℕ → List ℕ → List ℕ
written l a x = (take a l ++ x) ++ drop (a + length x) l

-- row y of a frame, and the frame with row y put in; a row has w bytes
unfoldable pub row_of : ℕ → ℕ → List ℕ → List ℕ
row_of w y frame = take w (drop (w * y) frame)

unfoldable pub with_row : ℕ → ℕ → List ℕ → List ℕ → List ℕ
with_row w y bytes frame = take (w * y) frame ++ (bytes ++ drop (w * y + w) frame)
