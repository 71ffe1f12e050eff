-- The parts of reading on: octets that are known to be Quiet, many at once.
use Rattle.std.specs.Prelude.{Bool, ◌||◌, List, ℕ, eqb}
use Rattle.std.specs.List.{position_or_len}
use Rattle.cobs.specs.CodeBlocks.{flag}
use Rattle.plain.specs.Maps.{escape, removed}

abbrev pub is_flag : ℕ → Bool
is_flag x = eqb x flag

-- in plain PPP: the octets that are not copied as they are
abbrev pub is_special : ℕ → ℕ → Bool
is_special map x = eqb x flag || eqb x escape || removed map x

-- how many octets stand before the first of them; all, where there is none
abbrev pub before_flag : List ℕ → ℕ
before_flag = position_or_len is_flag

abbrev pub before_special : ℕ → List ℕ → ℕ
before_special map = position_or_len (is_special map)
