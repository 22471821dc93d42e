-- The front of a device, an address, a latch and a byte of a palette where they stand in a state block (R7.5): of the front bytes 2 to 13 and 17 to 22, which
-- are the same places in either machine's block.
-- Assumes nothing.
use Rattle.std.specs.Prelude.{ℕ, ◌+◌, ◌*◌, ◌/◌, ◌%◌, ◌≤◌, ◌<◌, ◌≡◌, List, ◌∷◌, ◌++◌, true, ◌||◌, length, take, drop, set, Option}
use Rattle.laws.specs.Lists.{at}
use Rattle.front.specs.declared.Front.{Front}
use Rattle.front.specs.Front.{front, changed}
use Rattle.fields.specs.Fields.{flag_of, flag_from, chosen_of, chosen_from, latch_flag, latch_byte, latch_from, latch_fits}

-- the bytes that a block has to have for the front
abbrev pub front_end : ℕ
front_end = 23

-- the address in a block
abbrev pub address_in : List ℕ → ℕ
address_in b = at b 17 + 256 * at b 18

-- the front that a block holds
unfoldable pub front_in : List ℕ → Front
front_in b = front (at b 2) (take 11 (drop 3 b)) (address_in b) (at b 19) (chosen_from (at b 20)) (latch_from (at b 21) (at b 22))

-- the same block with front f in it: all other bytes stay
unfoldable pub front_stored : Front → List ℕ → List ℕ
front_stored f b =
    at b 0
    ∷ at b 1
    ∷ f.status
    ∷ (f.reg
    ++ (at b 14
    ∷ at b 15
    ∷ at b 16
    ∷ f.addr % 256
    ∷ f.addr / 256
    ∷ f.vram_buffer
    ∷ chosen_of f.dest
    ∷ latch_flag f.cmd_byte1
    ∷ latch_byte f.cmd_byte1
    ∷ drop front_end b))

-- its bytes are those of a front: what is asked of them in a well-formed block (R7.6)
pub record FrontFormed (b : List ℕ) : Type 0 where
  pub long : front_end ≤ length b
  pub low : at b 17 < 256
  pub chosen : at b 20 ≤ 2
  pub flag : at b 21 ≤ 1
  pub byte : latch_fits (at b 21) (at b 22) ≡ true

-- ---- a latch and an address stored, and a byte of a palette that begins at place k, with its dirty flag at place d
abbrev pub latch_stored : ℕ → Option ℕ → List ℕ → List ℕ
latch_stored k l b = set (set b k (latch_flag l)) (k + 1) (latch_byte l)

abbrev pub address_stored : ℕ → List ℕ → List ℕ
address_stored a b = set (set b 17 (a % 256)) 18 (a / 256)

abbrev pub colour_stored : ℕ → ℕ → ℕ → ℕ → List ℕ → List ℕ
colour_stored k d n v b = set (set b d (flag_of (flag_from (at b d) || changed (at b (k + n)) v))) (k + n) v
