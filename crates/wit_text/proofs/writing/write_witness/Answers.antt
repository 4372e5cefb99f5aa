use Rattle.std.proofs.Common.{◌≡◌, ◌++◌, List, ℕ, length, sym, ap, ◌∙◌, subst}
use Rattle.wit_text.specs.declared.witness.Witness.{Witness}
use Rattle.wit_text.specs.WitnessText.{witness_text, SpellsWitness}
use Rattle.wit_text.proofs.WrittenBack.{reads-back}
use Rattle.wit_text.proofs.writing.write_witness.Goals as goal

pub returns-clause-reads_back : goal.returns-clause-reads_back
returns-clause-reads_back c some =
    let t = c.args.trace.now in
    let w : Witness = record { property = c.args.property; trace = t } in
    let text : c.push_witness.new.out.items ≡ witness_text c.args.property t =
    c.in_ok-push_witness.ensures ∙ ap (λ (xs : List ℕ). xs ++ witness_text c.into.result t) c.new-text.ensures.items ∙ ap (λ n. witness_text n t) c.into.ensures in
    subst (λ (xs : List ℕ). SpellsWitness (length t.start) t.rows.width xs w) (sym text) (reads-back w (record { property = c.ranges.property.fits; some = some; wide = c.is_well_formed.ensures }))
