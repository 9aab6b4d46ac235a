-- "A code is the sum of what is inhibited: execute 4, read 2, write 1."
use Rattle.std.specs.Prelude.{Bool, not, ℕ, eqb}
use Rattle.std.specs.Int.Bits.{bit_and, bit_or}

-- "the union"
abbrev pub joined : ℕ → ℕ → ℕ
joined a b = bit_or a b

-- the code inhibits what the mask stands for
abbrev pub inhibits : ℕ → ℕ → Bool
inhibits mask code = not (eqb (bit_and code mask) 0)

abbrev pub no_read : ℕ → Bool
no_read = inhibits 2

abbrev pub no_write : ℕ → Bool
no_write = inhibits 1

-- "new code lacks a bit of the heading's"
abbrev pub lacks : ℕ → ℕ → Bool
lacks new old = not (eqb (joined old new) new)
