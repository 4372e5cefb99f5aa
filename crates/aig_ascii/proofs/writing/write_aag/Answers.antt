use Rattle.std.proofs.Common.{◌≡◌, ◌++◌, [], codes, List, ℕ, append_assoc, subst, sym, ap, ◌∙◌}
use Rattle.std.specs.List.{flat_map}
use Rattle.aig_model.specs.declared.parts.Named.{Named}
use Rattle.aig_model.specs.declared.parts.Parts.{Parts}
use Rattle.aig_ascii.specs.CircuitText.{line_text, header_numbers, sections_text, symbol_text, AreInOrder, IsTextOf}
use Rattle.aig_ascii.specs.NameOrder.{HaveOwnPlaces, WritesNames}
use Rattle.aig_ascii.proofs.NameRanks.{own_places}
use Rattle.aig_ascii.proofs.WrittenBack.{reads_back}
use Rattle.aig_ascii.proofs.writing.write_aag.Goals as goal

pub write_symbols-requires : goal.write_symbols-requires
write_symbols-requires c =
    subst (λ (names : List Named). HaveOwnPlaces names) (sym (c.as_slice.ensures ∙ c.names.ensures)) (own_places c.args.circuit.now c.in_ok-write_header.ensures.well_formed)

-- what the three parts make together
text_of : (c : Parts) (none headed full ended : List ℕ) (names : List Named) → none ≡ [] → headed ≡ none ++ line_text (codes "aag") (header_numbers c)
    → full ≡ headed ++ sections_text c → names ≡ c.names → WritesNames names full ended → IsTextOf c ended
text_of c none headed full ended names nothing header sections named written = record {
  names = written.ordered;
  ordered = subst (λ (ns : List Named). AreInOrder ns written.ordered) named written.order;
  is = written.is
      ∙ (ap (λ xs. xs ++ flat_map symbol_text written.ordered) (sections ∙ ap (λ xs. xs ++ sections_text c) (header ∙ ap (λ xs. xs ++ line_text (codes "aag") (header_numbers c)) nothing))
      ∙ append_assoc (line_text (codes "aag") (header_numbers c)) (sections_text c) (flat_map symbol_text written.ordered));
}

is_text : (c : goal.In_ok-write_symbols) → IsTextOf c.args.circuit.now c.write_symbols.new.text.items
is_text c =
    text_of c.args.circuit.now _ _ _ _ _ c.new-text.ensures.items c.in_ok-write_header.ensures.text c.in_ok-write_sections.ensures (c.as_slice.ensures ∙ c.names.ensures)
    c.in_ok-write_symbols.ensures

pub returns-clause-text : goal.returns-clause-text
returns-clause-text c = is_text c

pub returns-clause-reads_back : goal.returns-clause-reads_back
returns-clause-reads_back c = reads_back c.args.circuit.now _ c.in_ok-write_header.ensures.well_formed (is_text c)
