-- WHAT TRUE EDGES ARE FOR: where an edge cuts nothing, areas 0 and 2 give the same row; and what was asked for where they differ, computed.
-- R18.3: said of any memory and registers. R18.4: of three scenes.
-- Assumes nothing.
use Rattle.std.specs.Prelude.{◌≡◌, refl, ◌⊎◌, Bool, true, false, cond, List, [], ◌∷◌, ℕ, zero, suc, ◌+◌, ◌-◌, ◌*◌, ◌/◌, ◌%◌, ◌<◌, ◌≤◌, eqb, ltb, length, take}
use Rattle.laws.specs.Bits.{bit, any}
use Rattle.laws.specs.Lists.{at}
use Rattle.picture.specs.declared.RenderArea.{RenderArea}
use Rattle.picture.specs.declared.RenderArea.TheVariants.{VisibleOnly, TrueEdges}
use Rattle.picture.specs.Tile.{code_of, code_at, entry_at, tile_line, entry_code, entry_colour, entry_front, map_colour, map_front}
use Rattle.picture.specs.View.{early, cut_mark, visible_end, visible_seen, visible_stand, visible, edge_stand, true_edges}
use Rattle.picture.specs.Picture.{Row, back, front, table_at, top_of, on_line, listed, sprite_line, solid, held_back, marked, struck, drawn, laid}
use Rattle.picture.specs.Picture.{sprite_code, with_sprite, with_sprites, bare, picture}
use Rattle.picture.specs.Area.{view_of, picture_of, layers_of, row_bytes}
use Rattle.demands.specs.Layers.{OneOf}

-- ---- R18.3
-- With the early clock taking e off: a sprite with X byte h is left of the screen whole; or column 0 does not cut it and the visible area shows it; or it is
-- right of the screen whole. The others are those that the left edge cuts, and X 208 to 215 with the early clock.
abbrev pub Uncut : ℕ → ℕ → Type 0
Uncut e h = (h ≤ 40 + e) ⊎ (((48 + e ≤ h) × (h < 208)) ⊎ ((208 + e ≤ h) × (h < 256)))

module _ (reg vram : List ℕ) (scroll y : ℕ) where
  -- the sprites that are laid on row y, and their X bytes
  abbrev pub on_row : List ℕ
  on_row = take 8 (listed (at vram) (at reg) (y + 24) 64 0)

  abbrev pub x_byte : ℕ → ℕ
  x_byte n = at vram (table_at (at reg) + 128 + 2 * n)

  -- scroll cuts no tile at the left edge, and every sprite of the row is uncut
  pub record NothingCut : Type 0 where
    pub tiles : at reg 8 % 8 ≡ 0
    pub sprites : (n : ℕ) → OneOf on_row n → Uncut (early (at reg)) (x_byte n)

  -- The rows are the same byte for byte, in any colours, and so are their layers and the ninth sprite. Two sprites that are right of the screen meet in
  -- area 0 alone, so where there are none status bit 5 is the same too.
  pub record SameRow : Type 0 where
    pub bytes :
        (colours : List ℕ) → row_bytes colours 160 (picture_of TrueEdges reg scroll vram y) ≡ row_bytes colours 160 (picture_of VisibleOnly reg scroll vram y)
    pub layer : (x : ℕ) → layers_of TrueEdges reg scroll vram y x ≡ layers_of VisibleOnly reg scroll vram y x
    pub ninth : (picture_of TrueEdges reg scroll vram y).ninth ≡ (picture_of VisibleOnly reg scroll vram y).ninth
    pub hit :
        ((n : ℕ) → OneOf on_row n → x_byte n ≤ 208 + early (at reg)) →
        (picture_of TrueEdges reg scroll vram y).hit ≡ (picture_of VisibleOnly reg scroll vram y).hit

-- ---- R18.4
-- Row 0 of a map whose tile at column 5 is solid and has priority, all others clear, with solid sprites at these X bytes; register 0 and register 8.
abbrev scene : List ℕ → ℕ → ℕ
scene xs k =
    cond (ltb k 64) (cond (ltb k 32) 0 0xFF)
    (cond (ltb k 2048) (cond (eqb k 202) 1 (cond (eqb k 203) 0x10 0))
    (cond (ltb k 2176) (cond (ltb k (2048 + length xs)) 23 0xD0)
    (cond (eqb (k % 2) 0) (at xs ((k - 2176) / 2)) 1)))

abbrev registers : ℕ → ℕ → ℕ → ℕ
registers r0 r8 k = cond (eqb k 0) r0 (cond (eqb k 5) 0x10 (cond (eqb k 8) r8 0))

abbrev row_by : RenderArea → ℕ → ℕ → List ℕ → Row
row_by a r0 r8 xs = picture (scene xs) (registers r0 r8) (view_of a (registers r0 r8) 0 0)

-- n colour numbers from column x on: 0 the clear background, 15 the solid tile, 31 a sprite
abbrev seen : Row → ℕ → ℕ → List ℕ
seen p x zero = []
seen p x (suc n) = p.colour x ∷ seen p (suc x) n

-- Scroll 5 shows five columns of the tile, and a sprite stands at column 0, X 48: area 0 tests priority three columns off, so that only two of the five
-- hold it back; area 2 all five.
pub scrolled_edge : RenderArea → List ℕ
scrolled_edge a = seen (row_by a 0 5 (48 ∷ [])) 0 10

-- The left edge cuts three columns of a sprite at X 45; another at X 50 covers columns 2 to 9. In area 0 they do not meet; in area 2 they meet in
-- columns 2 to 4, which status bit 5 tells.
pub met_at_edge : RenderArea → Bool
met_at_edge a = (row_by a 0 0 (45 ∷ 50 ∷ [])).hit

-- With the early clock, X 208 to 215: how many columns show the sprite, of the last ten.
abbrev sprites : List ℕ → ℕ
sprites [] = 0
sprites (c ∷ cs) = cond (eqb c 31) 1 0 + sprites cs

abbrev last_ten : RenderArea → ℕ → ℕ
last_ten a h = sprites (seen (row_by a 8 0 (h ∷ [])) 150 10)

pub right_edge : RenderArea → List ℕ
right_edge a =
    last_ten a 208 ∷ last_ten a 209 ∷ last_ten a 210 ∷ last_ten a 211 ∷ last_ten a 212 ∷ last_ten a 213 ∷ last_ten a 214 ∷ last_ten a 215 ∷ last_ten a 216 ∷ []

pub edges_computed :
    (scrolled_edge VisibleOnly ≡ 15 ∷ 15 ∷ 31 ∷ 31 ∷ 31 ∷ 31 ∷ 31 ∷ 31 ∷ 0 ∷ 0 ∷ [])
    × (scrolled_edge TrueEdges ≡ 15 ∷ 15 ∷ 15 ∷ 15 ∷ 15 ∷ 31 ∷ 31 ∷ 31 ∷ 0 ∷ 0 ∷ [])
    × (met_at_edge VisibleOnly ≡ false)
    × (met_at_edge TrueEdges ≡ true)
    × (right_edge VisibleOnly ≡ 0 ∷ 0 ∷ 0 ∷ 0 ∷ 0 ∷ 0 ∷ 0 ∷ 0 ∷ 0 ∷ [])
    × (right_edge TrueEdges ≡ 8 ∷ 7 ∷ 6 ∷ 5 ∷ 4 ∷ 3 ∷ 2 ∷ 1 ∷ 0 ∷ [])
unfolding scrolled_edge met_at_edge right_edge picture visible true_edges visible_stand visible_end visible_seen edge_stand cut_mark back front table_at top_of
    on_line listed sprite_line solid held_back marked struck drawn laid sprite_code with_sprite with_sprites bare code_of code_at entry_at tile_line entry_code
    entry_colour entry_front map_colour map_front bit any
edges_computed = (refl, refl, refl, refl, refl, refl)
