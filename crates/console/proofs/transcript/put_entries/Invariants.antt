use Rattle.std.proofs.Common.{◌≡◌, ◌+◌, ◌++◌, drop}
use Rattle.text.specs.Growing.{said}
use Rattle.console.specs.Transcript.{entry_lines}
use Rattle.console.proofs.transcript.put_entries.Given as goal

abbrev pub invariant-loop-i : goal.invariant-loop-i
invariant-loop-i l = said l.text ++ entry_lines (l.i + 1) (drop l.i l.log) ≡ said l.initial.text ++ entry_lines 1 l.log
