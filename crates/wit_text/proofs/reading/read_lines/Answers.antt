use Rattle.std.proofs.Common.{◌∙◌}
use Rattle.wit_text.proofs.Steps.{status-step, property-step, start-step, property-fails, start-fails, rows-fail, rows-read}
use Rattle.wit_text.proofs.reading.read_lines.Goals as goal

pub returns-in_err-property : goal.returns-in_err-property
returns-in_err-property c =
    let l = c.args.latches in
    let i = c.args.inputs in
    let status = status-step l i c.args.cursor.now c.read_status.new.cursor c.in_ok-read_status.field-0 c.in_ok-read_status.ensures.line c.in_ok-read_status.ensures.next in
    property-fails l i c.read_status.new.cursor c.from_residual-in_err-property.result _ c.in_err-property.field-0.0 c.from_residual-in_err-property.ensures.1 status c.in_err-property.ensures.line

pub returns-in_err-start : goal.returns-in_err-start
returns-in_err-start c =
    let l = c.args.latches in
    let i = c.args.inputs in
    let status = status-step l i c.args.cursor.now c.read_status.new.cursor c.in_ok-read_status.field-0 c.in_ok-read_status.ensures.line c.in_ok-read_status.ensures.next in
    let property = property-step l i c.read_status.new.cursor c.read_property.new.cursor c.in_ok-property.property c.in_ok-property.ensures.line c.in_ok-property.ensures.next in
    start-fails l i c.in_ok-property.property c.read_property.new.cursor c.from_residual-in_err-start.result _ c.in_err-start.field-0.0 c.from_residual-in_err-start.ensures.1 (status ∙ property) c.in_err-start.ensures.line

pub returns-in_err-rows : goal.returns-in_err-rows
returns-in_err-rows c =
    let l = c.args.latches in
    let i = c.args.inputs in
    let status = status-step l i c.args.cursor.now c.read_status.new.cursor c.in_ok-read_status.field-0 c.in_ok-read_status.ensures.line c.in_ok-read_status.ensures.next in
    let property = property-step l i c.read_status.new.cursor c.read_property.new.cursor c.in_ok-property.property c.in_ok-property.ensures.line c.in_ok-property.ensures.next in
    let start = start-step l i c.in_ok-property.property c.read_property.new.cursor c.read_bits.new.cursor c.in_ok-start.start c.in_ok-start.ensures.line c.in_ok-start.ensures.next in
    rows-fail c.in_ok-property.property i c.in_ok-start.start c.read_bits.new.cursor c.from_residual-in_err-rows.result _ c.in_err-rows.field-0.0 c.from_residual-in_err-rows.ensures.1 (status ∙ property ∙ start) c.in_err-rows.ensures.rows

pub returns : goal.returns
returns c =
    let l = c.args.latches in
    let i = c.args.inputs in
    let status = status-step l i c.args.cursor.now c.read_status.new.cursor c.in_ok-read_status.field-0 c.in_ok-read_status.ensures.line c.in_ok-read_status.ensures.next in
    let property = property-step l i c.read_status.new.cursor c.read_property.new.cursor c.in_ok-property.property c.in_ok-property.ensures.line c.in_ok-property.ensures.next in
    let start = start-step l i c.in_ok-property.property c.read_property.new.cursor c.read_bits.new.cursor c.in_ok-start.start c.in_ok-start.ensures.line c.in_ok-start.ensures.next in
    rows-read c.in_ok-property.property i c.in_ok-start.start c.read_bits.new.cursor c.in_ok-rows.rows _ (status ∙ property ∙ start) c.in_ok-rows.ensures.rows c.in_ok-rows.ensures.width
