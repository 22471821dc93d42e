-- R5.4 to R5.12, over any view: `picture m g v` is a row's colour numbers and the status bits that it sets. R20.6: what lies over a finished row.
-- Assumes nothing.
use Rattle.std.specs.Prelude.{Bool, false, cond, ◌&&◌, ◌||◌, not, List, [], ◌∷◌, ℕ, zero, suc, ◌+◌, ◌-◌, ◌*◌, ◌/◌, ◌%◌, eqb, ltb, leb, length, take}
use Rattle.std.specs.Int.Bits.{bit_and}
use Rattle.laws.specs.Bits.{bit, any}
use Rattle.laws.specs.Circle.{past}
use Rattle.picture.specs.Tile.{code_at, names_at, map_colour, map_front}
use Rattle.picture.specs.View.{View}
use Rattle.picture.specs.declared.Stand.{Stand}

-- ---- the background
unfoldable pub back : (ℕ → ℕ) → (ℕ → ℕ) → View → ℕ → ℕ
back m g v x = map_colour m (names_at g) (v.map_x x) (v.map_y x)

-- R5.4: bit i of the priority mask: some column of the row marks it
unfoldable pub front : (ℕ → ℕ) → (ℕ → ℕ) → View → ℕ → Bool
front m g v i = any v.width (λ x. eqb (v.mark_at x) i && map_front m (names_at g) (v.map_x x) (v.map_y x))

-- ---- the sprites on a line
-- R5.6: the table T; sprite n has its Y byte at T + n, its X byte and its tile at T + 128 + 2n (R5.8)
unfoldable pub table_at : (ℕ → ℕ) → ℕ
table_at g = bit_and (g 5) 0x7E * 128

-- the line that its first row is on
unfoldable pub top_of : (ℕ → ℕ) → (ℕ → ℕ) → ℕ → ℕ
top_of m g n = (m (table_at g + n) + 1) % 256

-- 16 lines high, and not 8
abbrev pub tall : (ℕ → ℕ) → Bool
tall g = bit (g 1) 1

-- one of its lines is line l
unfoldable pub on_line : (ℕ → ℕ) → (ℕ → ℕ) → ℕ → ℕ → Bool
on_line m g l n = leb (top_of m g n) l && ltb l (top_of m g n + cond (tall g) 16 8)

-- up to a Y byte of D0: those on line l, of `left` from sprite n on
unfoldable pub listed : (ℕ → ℕ) → (ℕ → ℕ) → ℕ → ℕ → ℕ → List ℕ
listed m g l zero n = []
listed m g l (suc left) n =
    cond (eqb (m (table_at g + n)) 0xD0) []
    (cond (on_line m g l n) (n ∷ listed m g l left (suc n)) (listed m g l left (suc n)))

-- ---- one sprite
-- R5.8: the address of line d of its tile, or of its pair of tiles
unfoldable pub sprite_line : (ℕ → ℕ) → ℕ → ℕ → ℕ
sprite_line g tile d = cond (bit (g 6) 2) 8192 0 + 32 * cond (tall g) (tile / 2 * 2 + d / 8) tile + 4 * (d % 8)

-- What the row is while sprites are laid on it: the colour number of each column, the sprite mask, and whether status bit 5 is set.
pub record Canvas : Type 0 where
  pub colour : ℕ → ℕ
  pub mask : ℕ → Bool
  pub hit : Bool

-- R5.11: column k shows a pixel of the tile, and its code is not 0
unfoldable pub solid : ℕ → ℕ → (ℕ → ℕ) → ℕ → Bool
solid start end code k = ltb (start + k) end && not (eqb (code (start + k)) 0)

-- A sprite that stands at s and whose tile line has the codes `code`, laid on the canvas c, with the priority mask `prio`.
module _ (s : Stand) (code : ℕ → ℕ) (prio : ℕ → Bool) (c : Canvas) where
  -- priority holds it back; of one that is not seen it holds none (R5.12)
  unfoldable pub held_back : ℕ → Bool
  held_back k = s.seen && prio ((s.prio + k) % 256)

  -- R5.11: it is marked
  unfoldable pub marked : ℕ → Bool
  marked k = solid s.start s.end code k && not (held_back k)

  -- the sprite mask has its place already
  unfoldable pub struck : ℕ → Bool
  struck k = c.mask ((s.mark + k) % 256)

  -- it is drawn where it is marked and its place was free; of a sprite that is not seen nothing is (R5.12)
  unfoldable pub drawn : ℕ → Bool
  drawn k = s.seen && (marked k && not (struck k))

  -- the drawn ones in palette 1, the marks with those before, and whether two met
  unfoldable pub laid : Canvas
  laid = record {
    colour = λ x. cond (leb s.x x && drawn (x - s.x)) (16 + code (s.start + (x - s.x))) (c.colour x);
    mask = λ i. c.mask i || marked (past i s.mark);
    hit = c.hit || any 8 (λ k. marked k && struck k);
  }

-- ---- the row
-- the code of pixel p of sprite n on line l
unfoldable pub sprite_code : (ℕ → ℕ) → (ℕ → ℕ) → ℕ → ℕ → ℕ → ℕ
sprite_code m g l n p = code_at m (sprite_line g (m (table_at g + 128 + 2 * n + 1)) (l - top_of m g n)) p

-- the canvas with sprite n, and with each of a list in turn, for sprites that stand by `stand` on line l, under the priority mask prio
module _ (m g : ℕ → ℕ) (stand : ℕ → Stand) (l : ℕ) (prio : ℕ → Bool) where
  unfoldable pub with_sprite : ℕ → Canvas → Canvas
  with_sprite n c = laid (stand (m (table_at g + 128 + 2 * n))) (sprite_code m g l n) prio c

  unfoldable pub with_sprites : List ℕ → Canvas → Canvas
  with_sprites [] c = c
  with_sprites (n ∷ ns) c = with_sprites ns (with_sprite n c)

-- no sprite yet
unfoldable pub bare : (ℕ → ℕ) → Canvas
bare colour = record { colour = colour; mask = λ i. false; hit = false }

-- A row: the colour number (0 to 31) of each column, and whether status bits 5 and 6 are set.
pub record Row : Type 0 where
  pub colour : ℕ → ℕ
  pub hit : Bool
  pub ninth : Bool

-- R5.7: the first eight of the line, seen or not, and whether there is a ninth
unfoldable pub picture : (ℕ → ℕ) → (ℕ → ℕ) → View → Row
picture m g v =
    let ns = listed m g v.line 64 0 in
    let c = with_sprites m g v.stand v.line (front m g v) (take 8 ns) (bare (back m g v)) in
    record { colour = c.colour; hit = c.hit; ninth = ltb 8 (length ns) }

-- R20.6: the fill covers column x: register 0 bit 5 is set, and it is one of columns 0 to 7
abbrev pub fills : (ℕ → ℕ) → ℕ → Bool
fills g x = bit (g 0) 5 && ltb x 8

-- what it covers shows palette 1's colour register 7 mod 16, over everything: it changes what is shown and nothing else
unfoldable pub filled : (ℕ → ℕ) → Row → Row
filled g p = record { colour = λ x. cond (fills g x) (16 + g 7 % 16) (p.colour x); hit = p.hit; ninth = p.ninth }
