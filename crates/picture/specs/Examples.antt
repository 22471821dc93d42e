-- The rows of the Rust's own test `sprite_coord`, and a row of the home machine, computed from the definitions. (P8 to P11 stand with the other
-- marked examples in crate `demands`.)
-- Assumes nothing.
use Rattle.std.specs.Prelude.{◌≡◌, refl, Bool, cond, ◌&&◌, List, [], ◌∷◌, ℕ, zero, suc, ◌+◌, ◌-◌, ◌*◌, eqb, ltb, leb}
use Rattle.laws.specs.Bits.{bit, any}
use Rattle.laws.specs.Table.{table_from, table}
use Rattle.picture.specs.declared.Stand.{Stand}
use Rattle.picture.specs.Tile.{code_of, code_at, entry_at, tile_line, entry_code, entry_colour, entry_front, map_colour, map_front}
use Rattle.picture.specs.View.{visible_end, visible_seen, visible_stand, edge_stand, early, home}
use Rattle.picture.specs.Picture.{back, front, table_at, top_of, on_line, listed, sprite_line, solid, held_back, marked, struck, drawn, laid}
use Rattle.picture.specs.Picture.{sprite_code, with_sprite, with_sprites, bare, picture, filled}

-- x, start, end
abbrev pub spot : Stand → List ℕ
spot s = s.x ∷ s.start ∷ s.end ∷ []

-- the places below 256 that a mask has set
abbrev places_from : ℕ → ℕ → (ℕ → Bool) → List ℕ
places_from zero i mask = []
places_from (suc n) i mask = cond (mask i) (i ∷ places_from n (suc i) mask) (places_from n (suc i) mask)

abbrev pub places : (ℕ → Bool) → List ℕ
places mask = places_from 256 0 mask

-- The test: from register 1's size bit, register 0's early clock, line, tile, top and X byte, the row and the stand of a sprite, with the address of
-- its tile line, which is 32 char_num + 4 src_line
abbrev registers : ℕ → ℕ → ℕ → ℕ
registers a b zero = a
registers a b (suc zero) = b
registers a b (suc (suc k)) = 0

abbrev settings : ℕ → ℕ → ℕ → ℕ → ℕ → ℕ → List ℕ
settings reg1 reg0 line tile top h =
    (line - 24) ∷ sprite_line (registers reg0 reg1) tile (line - top) ∷ spot (visible_stand (early (registers reg0 reg1)) h)

pub asserted : List (List ℕ)
asserted =
    settings 0 0 32 0 28 50
    ∷ settings 2 0 37 3 30 55
    ∷ settings 2 0 38 3 30 55
    ∷ settings 2 0 38 3 30 45
    ∷ settings 0 0 38 42 34 203
    ∷ settings 0 8 32 0 28 58
    ∷ settings 2 8 38 3 30 63
    ∷ settings 2 8 38 3 30 53
    ∷ settings 0 8 38 42 34 211
    ∷ []

pub all_hold :
    asserted
    ≡ (8 ∷ (32 * 0 + 4 * 4) ∷ 2 ∷ 0 ∷ 8 ∷ [])
    ∷ (13 ∷ (32 * 2 + 4 * 7) ∷ 7 ∷ 0 ∷ 8 ∷ [])
    ∷ (14 ∷ (32 * 3 + 4 * 0) ∷ 7 ∷ 0 ∷ 8 ∷ [])
    ∷ (14 ∷ (32 * 3 + 4 * 0) ∷ 0 ∷ 3 ∷ 8 ∷ [])
    ∷ (14 ∷ (32 * 42 + 4 * 4) ∷ 155 ∷ 0 ∷ 5 ∷ [])
    ∷ (8 ∷ (32 * 0 + 4 * 4) ∷ 2 ∷ 0 ∷ 8 ∷ [])
    ∷ (14 ∷ (32 * 3 + 4 * 0) ∷ 7 ∷ 0 ∷ 8 ∷ [])
    ∷ (14 ∷ (32 * 3 + 4 * 0) ∷ 0 ∷ 3 ∷ 8 ∷ [])
    ∷ (14 ∷ (32 * 42 + 4 * 4) ∷ 155 ∷ 0 ∷ 5 ∷ [])
    ∷ []
unfolding asserted visible_end visible_seen visible_stand sprite_line bit
all_hold = refl

-- R20.6, R20.7: row 0 of the home machine. Sprite 0 stands at column 4, all its pixels of code 15, over a map of code 0; register 0 bit 5 is set, and
-- register 7 is F5. The fill lies over the sprite: columns 0 to 7 show colour 21, columns 8 to 11 the rest of the sprite, and column 12 the map
abbrev home_memory : ℕ → ℕ
home_memory a = cond (eqb a 16128) 255 (cond (eqb a 16256) 4 (cond (eqb a 16257) 1 (cond (leb 32 a && ltb a 36) 255 0)))

abbrev home_registers : ℕ → ℕ
home_registers k = cond (eqb k 0) 32 (cond (eqb k 5) 0x7E (cond (eqb k 7) 0xF5 0))

pub home_row : List ℕ
home_row = table 13 (λ x. (filled home_registers (picture home_memory home_registers (home home_registers 0 0))).colour x)

pub fill_over_sprite : home_row ≡ 21 ∷ 21 ∷ 21 ∷ 21 ∷ 21 ∷ 21 ∷ 21 ∷ 21 ∷ 31 ∷ 31 ∷ 31 ∷ 31 ∷ 0 ∷ []
unfolding home_row table table_from filled picture home edge_stand back front table_at top_of on_line listed sprite_line solid held_back marked struck drawn
    laid sprite_code with_sprite with_sprites bare code_of code_at entry_at tile_line entry_code entry_colour entry_front map_colour map_front bit any
fill_over_sprite = refl
