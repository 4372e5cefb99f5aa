use Rattle.cover_run.proofs.ReplayRead.{shape_of, few_rows}
use Rattle.cover_run.proofs.replaying.fits_circuit.Goals as goal

pub returns-clause-shape : goal.returns-clause-shape
returns-clause-shape c = shape_of c.args.circuit.now c.args.bytes.now c.args.witness.now c.requires.spells

pub returns-clause-few : goal.returns-clause-few
returns-clause-few c = few_rows _ _ c.args.bytes.now c.args.witness.now c.requires.spells c.lines_at_most_bytes.ensures c.requires.short
