-- A replay of recorded answers: oracle/VECTORS.md has the form of the list. A record is 16 bytes: the call `W`, `R` or `S`, its port or area, its byte, 0;
-- then three numbers of four bytes: the answer word, the checksum of the state block after the call, and that of the row that a step drew.
-- Assumes nothing.
use Rattle.std.specs.Prelude.{Bool, true, false, cond, ◌&&◌, List, ℕ, zero, suc, ◌+◌, ◌*◌, ◌/◌, ◌%◌, eqb, length, Result, Ok, Err}
use Rattle.laws.specs.Bits.{bit}
use Rattle.laws.specs.Lists.{at}
use Rattle.laws.specs.Paint.{four_at}
use Rattle.picture.specs.Area.{row_size, area_from}
use Rattle.raster.specs.declared.LineTable.TheVariants.{Steps261}
use Rattle.vdp.specs.Device.{made}
use Rattle.block.specs.Block.{old_size, block_of}
use Rattle.face.specs.Face.{Called, out_call, input_call, row_step_call}

-- the checksum of n bytes: byte i counts i + 1 times
unfoldable pub sum_of : ℕ → List ℕ → ℕ
sum_of zero l = 0
sum_of (suc n) l = sum_of n l + (n + 1) * at l n

-- the checksum of the row that a step drew, and 0 where it drew none: bit 24 of the answer says whether it did (R7.7)
unfoldable pub row_sum : ℕ → ℕ → List ℕ → ℕ
row_sum word area row = cond (bit word 24) (sum_of (row_size (area_from area)) row) 0

-- the record at place k has this answer, this block and this row
unfoldable pub agreed : List ℕ → ℕ → ℕ → List ℕ → ℕ → Bool
agreed l k word block sum = eqb word (four_at l (k + 4)) && eqb (sum_of old_size block) (four_at l (k + 8)) && eqb sum (four_at l (k + 12))

-- what the calls are made on
pub record World : Type 0 where
  pub block : List ℕ
  pub vram : List ℕ
  pub row : List ℕ

abbrev pub world : List ℕ → List ℕ → List ℕ → World
world b m x = record { block = b; vram = m; row = x }

-- one record: whether its call gave what the Rust gave, and what it left
pub record Turn : Type 0 where
  pub same : Bool
  pub left : World

abbrev pub turn : Bool → World → Turn
turn t w = record { same = t; left = w }

-- the call of the record at place k, by its mark: a port write, a port read, a row step; another mark is no call, and differs
unfoldable pub wrote : List ℕ → ℕ → World → Called → Turn
wrote l k w c = turn (agreed l k c.word c.block 0) (world c.block c.lent w.row)

unfoldable pub read : List ℕ → ℕ → World → Called → Turn
read l k w c = turn (agreed l k c.word c.block 0) (world c.block w.vram w.row)

unfoldable pub stepped : List ℕ → ℕ → World → Called → Turn
stepped l k w c = turn (agreed l k c.word c.block (row_sum c.word (at l (k + 1)) c.lent)) (world c.block w.vram c.lent)

unfoldable pub turned : List ℕ → ℕ → World → Turn
turned l k w =
    cond (eqb (at l k) 0x57) (wrote l k w (out_call w.block w.vram (at l (k + 1)) (at l (k + 2))))
    (cond (eqb (at l k) 0x52) (read l k w (input_call w.block w.vram (at l (k + 1))))
    (cond (eqb (at l k) 0x53) (stepped l k w (row_step_call w.block w.vram w.row (at l (k + 1))))
    (turn false w)))

-- a run: how many answers agree so far, whether all did, and what the calls left; after the first that differs nothing more is called
pub record Run : Type 0 where
  pub count : ℕ
  pub same : Bool
  pub left : World

abbrev pub run : ℕ → Bool → World → Run
run n t w = record { count = n; same = t; left = w }

unfoldable pub after : Run → Turn → Run
after r t = run (cond t.same (r.count + 1) r.count) t.same t.left

unfoldable pub ran : ℕ → List ℕ → Run → Run
ran zero l r = r
ran (suc n) l r = cond (ran n l r).same (after (ran n l r) (turned l (16 * n) (ran n l r).left)) (ran n l r)

-- a fresh device of table 0, as the Rust's is, in a block of the first version, with the video memory and the row buffer that it is lent
abbrev pub start : List ℕ → List ℕ → Run
start m x = run 0 true (world (block_of old_size (made Steps261)) m x)

-- WHAT A REPLAY FINDS: how many records there are, where all answers agree, and else the number of the first that differs; a record that is cut differs
unfoldable pub tallied : List ℕ → Run → Result ℕ ℕ
tallied l r = cond (r.same && eqb (length l % 16) 0) (Ok r.count) (Err r.count)

unfoldable pub replayed : List ℕ → List ℕ → List ℕ → Result ℕ ℕ
replayed l m x = tallied l (ran (length l / 16) l (start m x))
