use Rattle.std.proofs.Common.{◌∙◌, sym, ap, refl, ◌∷◌, [], ◌++◌}
use Rattle.mps_reader.specs.MpsLines.{is_one_of}
use Rattle.mps_reader.specs.RowTables.{role_with, sense_after}
use Rattle.mps_reader.specs.Tables.{texts_of}
use Rattle.mps_reader.proofs.FieldLists.{first_of_two, second_of_two}
use Rattle.mps_reader.proofs.rows.Rows.take_line.Goals as goal

pub returns-clause-row : goal.returns-clause-row
returns-clause-row c = λ ls l d ready.
    let a = c.find.ensures.found in let b = c.if-is_some.ensures in let n = c.in_ok-name.ensures.ok in let r = c.in_ok-role.ensures in let s = c.in_ok-sense.ensures.ok in
    let items = rw r.table at c.in_ok-push.ensures.items in
    let names = rw r.table at c.in_ok-push.ensures.names in record {
      row = _;
      begun = record {
        name = n.1 ∙ sym (second_of_two l c.args.fields.now _ d.fields c.in-len2.len_at_least c.in-len2.len_below);
        role = r.role ∙ ap (λ h. role_with h c.in_ok-sense.sense) ready.objective ∙ ap (role_with _) (s.1 ∙ ap sense_after (sym (first_of_two l c.args.fields.now _ d.fields c.in-len2.len_at_least c.in-len2.len_below)));
        rhs = refl;
        range = refl;
        last_column = refl;
        terms = c.new.ensures.items;
      };
      pushed = items;
      called = names ∙ ap (λ w. texts_of c.args.self.now.table.names.keys ++ w ∷ []) (sym (second_of_two l c.args.fields.now _ d.fields c.in-len2.len_at_least c.in-len2.len_below));
      absent = ap (is_one_of (texts_of c.args.self.now.table.names.keys)) (second_of_two l c.args.fields.now _ d.fields c.in-len2.len_at_least c.in-len2.len_below) ∙ sym a ∙ sym b;
    }
