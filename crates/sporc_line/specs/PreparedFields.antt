-- An entry that was prepared, by its fields.
use Rattle.sporc_line.specs.declared.prepared.Prepared.TheInside.{Inside}
use Rattle.sporc_line.specs.Prepared.{PreparedModel}

abbrev pub prepared_of : Inside → PreparedModel
prepared_of a = record {
  checked = a.checked;
  form = a.form.form;
  runs = a.form.runs;
  text = a.text;
  key = a.key;
}
