-- A line by its fields.
use Rattle.std.specs.Prelude.{min}
use Rattle.sporc_line.specs.declared.line.Line.TheInside.{Inside}
use Rattle.sporc_line.specs.LineModel.{LineModel, LineInvariant}

abbrev pub model_of : Inside → LineModel
model_of a = record {
  genesis = a.heads.genesis;
  kit = a.kit;
  entries = a.heads.entries;
  spare = min a.heads.spare a.forms.spare;
}

abbrev pub invariant_of : Inside → Type 0
invariant_of a =
    LineInvariant a.heads.genesis a.kit a.heads.entries a.key a.forms.base a.forms.forms a.text
