-- The length of a line.
use mathlib.Core.Path.{◌≡◌}
use mathlib.Core.Bool.{true, false}
use mathlib.Core.List.{List, [], ◌∷◌, ◌++◌}
use Prim.Native.Nat.{ℕ, ◌+◌, ◌*◌}
use native.Mathlib.Omega.{arith}
use lib.ListN.{length, length-append}
use Rattle.link.specs.Answers.{done, octet, idle, quiet, packet, held, refused}
use Rattle.lines.specs.Lines.{space, line_feed, decimal, hex_octets, text_line, packet_line, report_line, ReportMost}
use Rattle.lines.specs.Pages.{line_of}
use Rattle.lines.proofs.DecimalDigits.{count_most}
use Rattle.lines.proofs.Hexadecimal.{octets-length}

pub line-length : (letter n : ℕ) (rest : List ℕ) → length (text_line letter n rest) ≡ length (decimal n) + length rest + 2
line-length letter n rest = omega (arith, length-append (decimal n) rest)

pub packet-length : (n : ℕ) (shown : List ℕ) → length (packet_line n shown) ≡ length (decimal n) + 3 * length shown + 3
packet-length n shown =
    let rest = hex_octets shown ++ (line_feed ∷ []) in
    omega (arith, line-length 0x50 n rest, length-append (hex_octets shown) (line_feed ∷ []), octets-length shown)

pub line_of-length : (letter n : ℕ) (list rest : List ℕ) → length (line_of letter n list rest) ≡ length (decimal n) + 3 * length list + length rest + 2
line_of-length letter n list rest = omega (arith, line-length letter n (hex_octets list ++ rest), length-append (hex_octets list) rest, octets-length list)

pub report-most : ReportMost
unfolding report_line
report-most (packet second n) shown h = omega (arith, packet-length n shown, count_most 4 n (omega arith))
report-most (held n true) shown h = omega (arith, line-length 0x48 n (space ∷ 0x31 ∷ line_feed ∷ []), count_most 4 n (omega arith))
report-most (held n false) shown h = omega (arith, line-length 0x48 n (space ∷ 0x30 ∷ line_feed ∷ []), count_most 4 n (omega arith))
report-most (refused n) shown h = omega (arith, line-length 0x52 n (line_feed ∷ []), count_most 4 n (omega arith))
report-most quiet shown h = omega arith
report-most done shown h = omega arith
report-most (octet x) shown h = omega arith
report-most idle shown h = omega arith
