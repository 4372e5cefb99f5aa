use Rattle.signal_list.proofs.Signals.{name-form, place-signal, place-fault, literal-signal, literal-fault, owned, refused-name, name-signal, name-found, handed-on}
use Rattle.signal_list.proofs.signal.read_signal.Goals as goal

pub returns-in-Some-Place-clause-signal : goal.returns-in-Some-Place-clause-signal
returns-in-Some-Place-clause-signal c =
    let reads = rw c.in-Some-Place.field-0-is at c.in-Some-Place.ensures in
    place-signal c.args.circuit.now c.args.line.now c.in-Some-Place.place c.at_place.result c.top-top.ensures.well_formed.sized reads c.at_place.ensures

pub returns-in-Some-Place-clause-fault : goal.returns-in-Some-Place-clause-fault
returns-in-Some-Place-clause-fault c =
    let reads = rw c.in-Some-Place.field-0-is at c.in-Some-Place.ensures in
    place-fault c.args.circuit.now c.args.line.now c.in-Some-Place.place c.at_place.result reads c.at_place.ensures

pub returns-in-Some-Literal-clause-signal : goal.returns-in-Some-Literal-clause-signal
returns-in-Some-Literal-clause-signal c =
    let reads = rw c.in-Some-Literal.field-0-is at c.in-Some-Literal.ensures in
    literal-signal c.args.circuit.now c.args.line.now c.top-top.result c.in-Some-Literal.value c.in_range.result c.top-top.ensures.well_formed.sized c.top-top.ensures.value reads c.in_range.ensures.ok

pub returns-in-Some-Literal-clause-fault : goal.returns-in-Some-Literal-clause-fault
returns-in-Some-Literal-clause-fault c =
    let reads = rw c.in-Some-Literal.field-0-is at c.in-Some-Literal.ensures in
    literal-fault c.args.circuit.now c.args.line.now c.top-top.result c.in-Some-Literal.value c.in_range.result c.top-top.ensures.value reads c.in_range.ensures.err

pub index-requires : goal.index-requires
index-requires c =
    let reads = rw c.in-Some-Name.field-0-is at c.in-Some-Name.ensures in
    c.requires.asked c.in-Some-Name.name (name-form c.args.line.now c.in-Some-Name.name.now reads).1

pub returns-in_err-the_owner-in-Some-Name-clause-fault :
    goal.returns-in_err-the_owner-in-Some-Name-clause-fault
returns-in_err-the_owner-in-Some-Name-clause-fault c =
    let reads = rw c.in-Some-Name.field-0-is at c.in-Some-Name.ensures in
    let of = c.requires.owners c.in-Some-Name.name c.index.result.now c.index.ensures in
    let arm = c.in_err-the_owner-in-Some-Name in
    handed-on c.args.circuit.now c.args.line.now c.from_residual.result arm.field-0.0 c.from_residual.ensures.1
    (refused-name c.args.circuit.now c.args.line.now c.in-Some-Name.name.now c.index.result.now arm.field-0.0 c.top-top.ensures.well_formed.names reads of arm.ensures)

pub returns-in_ok-the_owner-in-Some-Name-clause-signal : goal.returns-in_ok-the_owner-in-Some-Name-clause-signal
returns-in_ok-the_owner-in-Some-Name-clause-signal c =
    let reads = rw c.in-Some-Name.field-0-is at c.in-Some-Name.ensures in
    let of = c.requires.owners c.in-Some-Name.name c.index.result.now c.index.ensures in
    let place = c.in_ok-the_owner-in-Some-Name.field-0 in
    name-signal c.args.circuit.now c.args.line.now c.in-Some-Name.name.now place c.at_place-in-Some-Name.result c.top-top.ensures.well_formed.sized reads
    (owned c.args.circuit.now c.in-Some-Name.name.now c.index.result.now place of c.in_ok-the_owner-in-Some-Name.ensures) c.at_place-in-Some-Name.ensures

pub returns-in_ok-the_owner-in-Some-Name-clause-fault : goal.returns-in_ok-the_owner-in-Some-Name-clause-fault
returns-in_ok-the_owner-in-Some-Name-clause-fault c =
    let of = c.requires.owners c.in-Some-Name.name c.index.result.now c.index.ensures in
    let place = c.in_ok-the_owner-in-Some-Name.field-0 in
    name-found c.args.circuit.now c.args.line.now c.in-Some-Name.name.now place c.at_place-in-Some-Name.result c.top-top.ensures.well_formed.names
    (owned c.args.circuit.now c.in-Some-Name.name.now c.index.result.now place of c.in_ok-the_owner-in-Some-Name.ensures) c.at_place-in-Some-Name.ensures
