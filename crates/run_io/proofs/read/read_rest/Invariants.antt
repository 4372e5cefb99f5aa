use Rattle.std.proofs.Common.{◌≡◌, ◌≤◌, ◌-◌, ◌+◌, vec_len}
use Rattle.run_io.specs.Desk.{HasSameTexts, HasSameFaults}
use Rattle.run_io.proofs.Reading.{Reading}
use Rattle.run_io.proofs.read.read_rest.Given as goal

abbrev pub invariant-pieces : goal.invariant-pieces
invariant-pieces g l =
    let old = g.D.Desk.state l.fn.desk in
    let new = g.D.Desk.state l.desk in
    record {
      same_text : HasSameTexts old new;
      same_faults : HasSameFaults old new;
      same_file : new.started ≡ old.started;
      same_whole : new.whole ≡ old.whole;
      same_earlier : new.earlier ≡ old.earlier;
      within : vec_len l.bytes ≤ l.limit;
      reading : Reading old.left new.left new.given l.bytes.items;
    }

abbrev pub decreases-pieces : goal.decreases-pieces
decreases-pieces g l = l.limit + 1 - vec_len l.bytes
