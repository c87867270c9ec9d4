-- Marks as numbers, by which proofs tell them apart.
use Rattle.std.specs.Prelude.{◌≡◌, ℕ, ◌==◌, if◌then◌else◌, refl}
use Rattle.std.specs.Coded.{Coded, code_by, coded×, coded_ℕ}
use Rattle.sporc_delta.specs.Marks.{Mark, Keep, Remove, Insert}

abbrev pub mark_parts : Mark → ℕ × ℕ
mark_parts Keep = (0, 0)
mark_parts Remove = (1, 0)
mark_parts (Insert c) = (2, c)

abbrev pub mark_of_parts : ℕ × ℕ → Mark
mark_of_parts p = if p.0 == 0 then Keep else (if p.0 == 1 then Remove else Insert p.1)

pub mark_again : (m : Mark) → mark_of_parts (mark_parts m) ≡ m
mark_again Keep = refl
mark_again m = refl

abbrev pub mark_code : Coded Mark
mark_code = code_by (ℕ × ℕ) (coded× coded_ℕ coded_ℕ) mark_parts mark_of_parts mark_again
