-- Roles.
use Rattle.std.specs.Prelude.{ℕ, ◌==◌, Bool, List, [], ◌∷◌, Option, find, codes}
use Rattle.sporc_member.specs.declared.role.Role.{Role}
use Rattle.sporc_member.specs.declared.role.Role.TheVariants.{Reader, Editor, Admin}

-- the word for a role, in scripts and in what is printed
abbrev pub role_name : Role → List ℕ
role_name Reader = codes "reader"
role_name Editor = codes "editor"
role_name Admin = codes "admin"

-- the number of a role in genesis and changes
abbrev pub role_code_of : Role → ℕ
role_code_of Reader = 1
role_code_of Editor = 2
role_code_of Admin = 3

-- the role with this number, if there is one
abbrev pub role_with_code : ℕ → Option Role
role_with_code code = find (λ r. role_code_of r == code) (Reader ∷ Editor ∷ Admin ∷ [])

abbrev pub same_role : Role → Role → Bool
same_role a b = role_code_of a == role_code_of b

abbrev pub is_admin : Role → Bool
is_admin role = same_role role Admin
