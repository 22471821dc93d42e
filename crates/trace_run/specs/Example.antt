-- R7.12, the worked trace, computed.
-- Assumes nothing.
use Rattle.std.specs.Prelude.{◌≡◌, refl, List, [], ◌∷◌, ℕ, replicate}
use Rattle.laws.specs.Sizes.{vram_size}
use Rattle.laws.specs.Bits.{bit}
use Rattle.raster.specs.declared.LineTable.{LineTable}
use Rattle.raster.specs.declared.LineTable.TheVariants.{Steps261, Steps262}
use Rattle.raster.specs.Raster.{jumps, starts, advanced, line_interrupt, counted}
use Rattle.vdp.specs.Device.{made}
use Rattle.front.specs.Ports.{front_write, front_read}
use Rattle.vdp.specs.Ports.{port_write, port_read}
use Rattle.points.specs.Points.{row_on, bits_of, ended_by, report_by, interrupt_by, points_of}
use Rattle.step.specs.Step.{stepped, step_with}
use Rattle.trace_record.specs.Record.{record_at, marked}
use Rattle.trace_run.specs.Device.{handheld}
use Rattle.trace_text.specs.Text.{decimal, line_of, end_line, bad_line, long_line}
use Rattle.trace_run.specs.Run.{start, row_turn, turn_by, turn_of, after, lines, ran}
use Rattle.trace_text.specs.End.{last_line}
use Rattle.trace_run.specs.Output.{text, printed}

-- its input: eight records
pub input : List ℕ
input =
    0x50 ∷ 0x57 ∷ 0xBF ∷ 0x00 ∷ 0x50 ∷ 0x57 ∷ 0xBF ∷ 0x40 ∷ 0x50 ∷ 0x57 ∷ 0xBE ∷ 0xAB ∷ 0x50 ∷ 0x57 ∷ 0xBF ∷ 0x00 ∷ 0x50 ∷ 0x57
    ∷ 0xBF ∷ 0x00 ∷ 0x50 ∷ 0x52 ∷ 0xBE ∷ 0x4C ∷ 0x53 ∷ 0x00 ∷ 0x50 ∷ 0x52 ∷ 0x7F ∷ []

-- its text: `w 0` five times, `r 0 AB`, `s 0 01 0 0`, `r 2 00`, `end 8`
pub output : List ℕ
output =
    0x77 ∷ 0x20 ∷ 0x30 ∷ 0x0A ∷ 0x77 ∷ 0x20 ∷ 0x30 ∷ 0x0A ∷ 0x77 ∷ 0x20 ∷ 0x30 ∷ 0x0A ∷ 0x77 ∷ 0x20 ∷ 0x30 ∷ 0x0A ∷ 0x77 ∷ 0x20
    ∷ 0x30 ∷ 0x0A ∷ 0x72 ∷ 0x20 ∷ 0x30 ∷ 0x20 ∷ 0x41 ∷ 0x42 ∷ 0x0A ∷ 0x73 ∷ 0x20 ∷ 0x30 ∷ 0x20 ∷ 0x30 ∷ 0x31 ∷ 0x20 ∷ 0x30 ∷ 0x20
    ∷ 0x30 ∷ 0x0A ∷ 0x72 ∷ 0x20 ∷ 0x32 ∷ 0x20 ∷ 0x30 ∷ 0x30 ∷ 0x0A ∷ 0x65 ∷ 0x6E ∷ 0x64 ∷ 0x20 ∷ 0x38 ∷ 0x0A ∷ []

-- the one is printed for the other, by either table, from 16,384 zeroed bytes of video memory and a row buffer of 1,024
pub worked :
    (printed input (start (handheld (made Steps261)) (replicate vram_size 0) (replicate 1024 0) []) ≡ output)
    × (printed input (start (handheld (made Steps262)) (replicate vram_size 0) (replicate 1024 0) []) ≡ output)
unfolding input output record_at marked decimal line_of end_line bad_line long_line row_turn turn_by turn_of after lines ran last_line text printed port_write
    port_read front_write front_read jumps starts advanced line_interrupt counted bit row_on bits_of ended_by report_by interrupt_by points_of stepped step_with
worked = (refl, refl)

-- no input: `end 0`
pub none :
    (t : LineTable) →
    printed [] (start (handheld (made t)) (replicate vram_size 0) (replicate 1024 0) []) ≡ 0x65 ∷ 0x6E ∷ 0x64 ∷ 0x20 ∷ 0x30 ∷ 0x0A ∷ []
unfolding decimal end_line bad_line long_line after lines ran last_line text printed
none t = refl
