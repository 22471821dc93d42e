-- R5.1, R5.5, R5.9, R5.10, R18.1, R20.4: what differs from screen to screen. All else is said once, over any view.
-- Assumes nothing.
use Rattle.std.specs.Prelude.{Bool, true, cond, ◌&&◌, ℕ, ◌+◌, ◌-◌, ◌%◌, min, ltb, leb}
use Rattle.laws.specs.Bits.{bit}
use Rattle.picture.specs.declared.Stand.{Stand}

-- One row of a screen.
pub record View : Type 0 where
  pub width : ℕ
  -- the line L that sprites are on
  pub line : ℕ
  -- the map's pixel that screen column x shows
  pub map_x : ℕ → ℕ
  pub map_y : ℕ → ℕ
  -- the bit of the priority mask that screen column x marks
  pub mark_at : ℕ → ℕ
  -- where a sprite with X byte h stands
  pub stand : ℕ → Stand

-- the early clock of R5.9
abbrev pub early : (ℕ → ℕ) → ℕ
early g = cond (bit (g 0) 3) 8 0

-- ---- the visible area
-- R5.5: the first tile, of which scroll cuts s pixels, marks s places to the left; all others at their own columns
unfoldable pub cut_mark : ℕ → ℕ → ℕ
cut_mark s x = cond (ltb x (8 - s)) ((x + 256 - s) % 256) x

-- R5.9: where it ends
unfoldable pub visible_end : ℕ → ℕ
visible_end x = cond (ltb 160 x) 8 (min (160 - x) 8)

-- R5.9: whether it is seen
unfoldable pub visible_seen : ℕ → Bool
visible_seen h = ltb 40 h && ltb h 208

-- R5.9, R6.1: where it stands; where R5.11 tests priority from, and where it marks from (one that is not seen: R5.12)
unfoldable pub visible_stand : ℕ → ℕ → Stand
visible_stand e h = record {
  seen = visible_seen h;
  x = h - 48 - e;
  start = 48 + e - h;
  end = visible_end (h - 48 - e);
  prio = (h - 48 - e + 256 - (48 + e - h)) % 256;
  mark = cond (visible_seen h) h (h + (48 + e - h));
}

-- R5.1: the map scrolled, and sprites on line row + 24, with these marks of the background and these stands of sprites
abbrev pub window : (ℕ → ℕ) → (ℕ → Stand) → (ℕ → ℕ) → ℕ → ℕ → View
window mark_at stand g scroll row = record {
  width = 160;
  line = row + 24;
  map_x = λ x. (x + 304 - g 8) % 256;
  map_y = λ x. (row + 24 + scroll) % 224;
  mark_at = mark_at;
  stand = stand;
}

unfoldable pub visible : (ℕ → ℕ) → ℕ → ℕ → View
visible g scroll row = window (cut_mark ((304 - g 8) % 256 % 8)) (visible_stand (early g)) g scroll row

-- ---- the true edges
-- R18.2: a sprite that stands at X - left - e on a row of `width` columns: its pixels left of column 0 and right of the last are not there, and both
-- masks go by the screen column
unfoldable pub edge_stand : ℕ → ℕ → ℕ → ℕ → Stand
edge_stand left width e h = record {
  seen = true;
  x = h - left - e;
  start = left + e - h;
  end = min (width - (h - left - e)) 8;
  prio = h - left - e;
  mark = h - left - e;
}

-- R18.1: the map, the lines and the width are those of the visible area; a mark of the background goes to its own column
unfoldable pub true_edges : (ℕ → ℕ) → ℕ → ℕ → View
true_edges g scroll row = window (λ x. x) (edge_stand 48 160 (early g)) g scroll row

-- ---- the effective area
-- R5.10: where it stands
unfoldable pub effective_stand : ℕ → ℕ → Stand
effective_stand e h = record { seen = true; x = (h + 256 - e) % 256; start = 0; end = 8; prio = (h + 256 - e) % 256; mark = h }

-- R5.1: the map is the screen; so nothing is cut, and a mark goes to its own column
unfoldable pub effective : (ℕ → ℕ) → ℕ → View
effective g row = record { width = 256; line = row; map_x = λ x. x; map_y = λ x. row; mark_at = λ x. x; stand = effective_stand (early g) }

-- ---- the home machine
-- R20.4: the map scrolled both ways, and sprites on the row's own line; R20.5: register 0 bit 6 stops the sideways scroll of rows 0 to 15, and bit 7 the
-- vertical scroll of columns 192 and up; R20.7: sprites stand at X or X - 8, and both masks go by the screen column
unfoldable pub home : (ℕ → ℕ) → ℕ → ℕ → View
home g scroll row = record {
  width = 256;
  line = row;
  map_x = λ x. cond (bit (g 0) 6 && ltb row 16) x ((x + 256 - g 8) % 256);
  map_y = λ x. cond (bit (g 0) 7 && leb 192 x) row ((row + scroll) % 224);
  mark_at = λ x. x;
  stand = edge_stand 0 256 (early g);
}
