-- Octets written into an area.
use Rattle.std.specs.Prelude.{List, ◌++◌, ℕ, ◌+◌, length, take, drop}

-- after its first n; everything else in it stays
abbrev pub write : List ℕ → ℕ → List ℕ → List ℕ
write area n xs = take n area ++ xs ++ drop (n + length xs) area
