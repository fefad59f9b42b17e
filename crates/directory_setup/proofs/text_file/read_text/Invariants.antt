use Rattle.std.proofs.Common.{◌≡◌, length}
use Rattle.std.specs.Io.KnownBytes.{Consumes}
use Rattle.directory_setup.proofs.text_file.read_text.Given as goal

-- the text is what was read so far
abbrev pub invariant-loop : goal.invariant-loop
invariant-loop g l = record {
  left : Consumes (g.S.Source.bytes_left l.fn.file) (g.S.Source.bytes_left l.file) l.text.items;
  sound : g.S.Source.read_fault_count l.file ≡ g.S.Source.read_fault_count l.fn.file;
  size : length l.buffer ≡ 4096;
}
