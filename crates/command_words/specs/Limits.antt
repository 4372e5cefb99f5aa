-- The greatest length of a file.
use Rattle.std.specs.Prelude.{ℕ}
use Rattle.command_words.specs.declared.stop.File.{File}
use Rattle.command_words.specs.declared.stop.File.TheVariants as files

-- in bytes
abbrev pub limit_of : File → ℕ
limit_of files.Circuit = 67108864
limit_of files.Signals = 65536
limit_of files.Formula = 268435456
limit_of files.Proof = 268435456
limit_of files.Witness = 67108864
