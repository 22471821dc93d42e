-- R8.1, R9.2, the marked examples P1 to P13: one table, a line for each, computed from the definitions.
-- Assumes nothing.
use Rattle.std.specs.Prelude.{◌≡◌, refl, false, cond, List, [], ◌∷◌, ℕ, zero, suc, ◌-◌, eqb, length, replicate}
use Rattle.laws.specs.Sizes.{vram_size}
use Rattle.laws.specs.Bits.{bit, any}
use Rattle.laws.specs.Lists.{at}
use Rattle.laws.specs.Table.{table_from, table as table_of}
use Rattle.colour.specs.Colour.{colour, colours_of}
use Rattle.picture.specs.declared.RenderArea.TheVariants.{VisibleOnly}
use Rattle.picture.specs.View.{visible_end, visible_seen, visible_stand}
use Rattle.picture.specs.Picture.{bare, solid, held_back, marked, struck, drawn, laid}
use Rattle.picture.specs.Examples.{spot, places}
use Rattle.raster.specs.declared.LineTable.{LineTable}
use Rattle.raster.specs.declared.LineTable.TheVariants.{Steps261, Steps262}
use Rattle.raster.specs.Raster.{pass_length, jumps, starts, advanced, line_interrupt, counted}
use Rattle.vdp.specs.declared.VdpState.{VdpState}
use Rattle.vdp.specs.Device.{made, fresh}
use Rattle.refusal.specs.Refusals.{refusal_number, byte_given}
use Rattle.front.specs.Ports.{front_write, front_read}
use Rattle.vdp.specs.Ports.{port_write, port_read}
use Rattle.vdp.specs.Calls.{Call, write, read, Answer, w, r, after, answer, after_all, answers, start}
use Rattle.points.specs.Points.{row_on, bits_of, ended_by, report_by, interrupt_by, points_of, interrupt_number}
use Rattle.step.specs.Step.{line_of, stepped, step_with, frame_step_of}
use Rattle.passes.specs.Split.{four_bytes}

-- ---- port calls on a fresh device with zeroed memory: the bytes that they read, and the numbers of their refusals
abbrev bytes_read : List Answer → List ℕ
bytes_read [] = []
bytes_read (w n ∷ l) = bytes_read l
bytes_read (r n b ∷ l) = b ∷ bytes_read l

abbrev refusals : List Answer → List ℕ
refusals [] = []
refusals (w n ∷ l) = n ∷ refusals l
refusals (r n b ∷ l) = n ∷ refusals l

-- the four bytes of the palette's colour i after them
abbrev shown : ℕ → List Call → List ℕ
shown i cs = four_bytes (at (colours_of (after_all start cs).device.cram) i)

-- ---- accepted visible-area steps
abbrev pub zeroed : List ℕ
zeroed = replicate vram_size 0

-- the device after n of them, the line that it then has, and the lines at which the next n report an interrupt
unfoldable pub steps_on : ℕ → VdpState → VdpState
steps_on zero d = d
steps_on (suc n) d = steps_on n (stepped VisibleOnly zeroed d).device

abbrev line_after : LineTable → ℕ → ℕ
line_after t n = line_of (steps_on n (made t))

unfoldable pub interrupt_lines : ℕ → VdpState → List ℕ
interrupt_lines zero d = []
interrupt_lines (suc n) d =
    let s = stepped VisibleOnly zeroed d in
    let rest = interrupt_lines n s.device in
    cond (eqb (interrupt_number s.interrupt) 1) (line_of s.device ∷ rest) rest

-- a fresh device with register 0 at 10 (hex) and register 10 at N; and after all steps of its first pass but the last, which sets line 0
abbrev pub every : LineTable → ℕ → VdpState
every t n =
    (after_all (record { device = made t; vram = zeroed }) (write 0xBF 0x10 ∷ write 0xBF 0x80 ∷ write 0xBF n ∷ write 0xBF 0x8A ∷ [])).device

abbrev pub before_line0 : LineTable → ℕ → VdpState
before_line0 t n = steps_on (pass_length t - 1) (every t n)

-- the refusal of a step on a frame of n bytes
abbrev refused_on : ℕ → ℕ
refused_on n = refusal_number (frame_step_of VisibleOnly zeroed n fresh).outcome

-- ---- a sprite of eight solid pixels with X byte h, alone on its row: how many places it marks
abbrev marks : ℕ → ℕ
marks h = length (places (laid (visible_stand 0 h) (λ p. 1) (λ i. false) (bare (λ x. 0))).mask)

pub examples : List (List ℕ)
examples =
    -- P1 a step, then 7E reads
    (byte_given (port_read (steps_on 1 fresh) zeroed 0x7E).byte ∷ [])
    -- P2, P3 reads
    ∷ bytes_read (answers start (write 0xBF 0x00 ∷ write 0xBF 0x00 ∷ write 0xBE 0x42 ∷ read 0xBE ∷ read 0xBE ∷ []))
    ∷ bytes_read
    (answers start
    (write 0xBF 0xFE ∷ write 0xBF 0x7F ∷ write 0xBE 0xA1 ∷ write 0xBE 0xB2 ∷ write 0xBF 0xFE ∷ write 0xBF 0x3F ∷ read 0xBE ∷ read 0xBE ∷ []))
    -- P4 palette colour 3
    ∷ shown 3 (write 0xBF 0x06 ∷ write 0xBF 0xC0 ∷ write 0xBE 0x5A ∷ write 0xBE 0xF3 ∷ [])
    -- P5, P6 refusals
    ∷ refusals (answers start (write 0xBF 0x01 ∷ write 0xBF 0xC0 ∷ write 0xBE 0x77 ∷ []))
    ∷ refusals (answers start (write 0xBF 0x00 ∷ write 0xBF 0x8A ∷ write 0xBF 0x00 ∷ write 0xBF 0x8B ∷ []))
    -- P7 the counter after so many steps, by table 0 and by table 1
    ∷ (line_after Steps261 217 ∷ line_after Steps261 218 ∷ line_after Steps261 260 ∷ line_after Steps261 261 ∷ [])
    ∷ (line_after Steps262 218 ∷ line_after Steps262 219 ∷ line_after Steps262 261 ∷ line_after Steps262 262 ∷ [])
    -- P8 X 45, P9 X 203, P10 early clock X 49: x, start, end
    ∷ spot (visible_stand 0 45)
    ∷ spot (visible_stand 0 203)
    ∷ spot (visible_stand 8 49)
    -- P11 unseen X 208, then 209
    ∷ (marks 208 ∷ marks 209 ∷ [])
    -- P12 line interrupts on, N = 3: the first of the next 12 steps, lines 0 to 11
    ∷ interrupt_lines 12 (before_line0 Steps262 3)
    -- P13 frame 92,159, then 92,160
    ∷ (refused_on 92159 ∷ refused_on 92160 ∷ [])
    ∷ []

pub table :
    examples
    ≡ (1 ∷ [])
    ∷ (0x42 ∷ 0x00 ∷ [])
    ∷ (0xA1 ∷ 0xB2 ∷ [])
    ∷ (0xAA ∷ 0x55 ∷ 0x33 ∷ 0xFF ∷ [])
    ∷ (0 ∷ 0 ∷ 6 ∷ [])
    ∷ (0 ∷ 0 ∷ 0 ∷ 3 ∷ [])
    ∷ (0xD9 ∷ 0xD5 ∷ 0xFF ∷ 0 ∷ [])
    ∷ (0xDA ∷ 0xD5 ∷ 0xFF ∷ 0 ∷ [])
    ∷ (0 ∷ 3 ∷ 8 ∷ [])
    ∷ (155 ∷ 0 ∷ 5 ∷ [])
    ∷ (0 ∷ 7 ∷ 8 ∷ [])
    ∷ (0 ∷ 8 ∷ [])
    ∷ (2 ∷ 6 ∷ 10 ∷ [])
    ∷ (9 ∷ 0 ∷ [])
    ∷ []
unfolding examples steps_on interrupt_lines port_write port_read front_write front_read after answer answers after_all start colour colours_of table_from
    table_of jumps starts advanced line_interrupt counted bit row_on bits_of ended_by report_by interrupt_by points_of stepped step_with visible_end
    visible_seen
    visible_stand solid held_back marked struck drawn laid bare any
table = refl
