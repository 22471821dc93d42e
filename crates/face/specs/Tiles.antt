-- R14.3, R14.4 in the C face: what its two calls answer and leave. They take no block: nothing of a device changes, its
-- read buffer neither.
-- Assumes nothing.
use Rattle.std.specs.Prelude.{List, [], ℕ, length}
use Rattle.refusal.specs.Refusals.{refusal_number}
use Rattle.tile_codes.specs.Calls.{read_tile_refusal, write_tile_refusal, tile_written, tile_read}
use Rattle.face.specs.Face.{Called}

-- the buffer that it may write is video memory
unfoldable pub write_tile_call : List ℕ → ℕ → List ℕ → Called
write_tile_call m n codes = record { word = refusal_number (write_tile_refusal m n codes); block = []; lent = tile_written m n codes }

-- the buffer that it may write is the one for the codes
unfoldable pub read_tile_call : List ℕ → ℕ → List ℕ → Called
read_tile_call m n codes = record { word = refusal_number (read_tile_refusal m n (length codes)); block = []; lent = tile_read m n codes }
