-- Values as numbers and lists, by which proofs tell them apart.
use Rattle.std.specs.Prelude.{◌≡◌, ℕ, ◌==◌, List, [], Option, if◌then◌else◌, refl}
use Rattle.std.specs.Coded.{Coded, code_by, coded×, coded_ℕ, coded_list, coded_option}
use Rattle.lms_leaf.specs.Leaves.{LeavesModel}
use Rattle.lms_leaf.specs.Codes.{leaves_code}
use Rattle.lms_tree.specs.Codes.{private_code}
use Rattle.lms_tree.specs.LmsPrivate.{LmsPrivate}
use Rattle.sporc_delta.specs.Codes.{mark_code}
use Rattle.sporc_delta.specs.Marks.{Mark}
use Rattle.sporc_member.specs.declared.change.Change.{Change as MemberChange}
use Rattle.sporc_member.specs.declared.change.Change.TheVariants.{Remove as RemoveMember}
use Rattle.sporc_member.specs.declared.change.ChangeFault.{ChangeFault}
use Rattle.sporc_member.specs.declared.change.ChangeFault.TheVariants as faults
use Rattle.sporc_member.specs.Codes.{change_code, fault_code}
use Rattle.sporc_line.specs.Codes.{kit_code}
use Rattle.sporc_line.specs.Kit.{Kit}
use Rattle.sporc_entry.specs.declared.genesis.Genesis.{Genesis}
use Rattle.sporc_entry.specs.Codes.{genesis_code}
use Rattle.sporc_client.specs.ClientModel.{ClientModel}
use Rattle.sporc_client.specs.Log.{Logged, Edit, Change, Submit, Dropped, Accept, Discard}
use Rattle.sporc_client.specs.PlainClient.{Opening}

-- ---- logs

-- the kind, who made it, the events seen, and what it has of marks, a change, a fault and bytes
abbrev pub LoggedParts : Type 0
LoggedParts = ℕ × (ℕ × (ℕ × (List Mark × (MemberChange × (ChangeFault × List ℕ)))))

abbrev pub logged_parts : Logged → LoggedParts
logged_parts (Edit by seen marks) =
    (0, (by, (seen, (marks, (RemoveMember 0, (faults.NumberUsed, []))))))
logged_parts (Change by change) = (1, (by, (0, ([], (change, (faults.NumberUsed, []))))))
logged_parts (Submit by bytes) = (2, (by, (0, ([], (RemoveMember 0, (faults.NumberUsed, bytes))))))
logged_parts (Dropped by fault) = (3, (by, (0, ([], (RemoveMember 0, (fault, []))))))
logged_parts (Accept by bytes) = (4, (by, (0, ([], (RemoveMember 0, (faults.NumberUsed, bytes))))))
logged_parts (Discard by) = (5, (by, (0, ([], (RemoveMember 0, (faults.NumberUsed, []))))))

abbrev pub logged_of_parts : LoggedParts → Logged
logged_of_parts p =
    let by = p.1.0 in
    if p.0 == 0 then Edit by p.1.1.0 p.1.1.1.0
    else (if p.0 == 1 then Change by p.1.1.1.1.0
    else (if p.0 == 2 then Submit by p.1.1.1.1.1.1
    else (if p.0 == 3 then Dropped by p.1.1.1.1.1.0
    else (if p.0 == 4 then Accept by p.1.1.1.1.1.1 else Discard by))))

pub logged_again : (e : Logged) → logged_of_parts (logged_parts e) ≡ e
logged_again (Edit by seen marks) = refl
logged_again event = refl

abbrev pub logged_code : Coded Logged
logged_code = code_by LoggedParts (coded× coded_ℕ (coded× coded_ℕ (coded× coded_ℕ
    (coded× (coded_list mark_code) (coded× change_code (coded× fault_code (coded_list coded_ℕ)))))))
    logged_parts logged_of_parts logged_again

-- ---- clients

abbrev pub opening_code : Coded Opening
opening_code = code_by (Genesis × (Kit × LmsPrivate))
    (coded× genesis_code (coded× kit_code private_code)) (λ o. (o.genesis, (o.kit, o.key)))
    (λ p. record { genesis = p.0; kit = p.1.0; key = p.1.1 }) (λ _. refl)

abbrev pub client_code : {D : Type 0} → Coded D → Coded (ClientModel D)
client_code {D} disk =
    code_by (Opening × (List Logged × (LeavesModel D × Option ℕ))) (coded× opening_code
    (coded× (coded_list logged_code) (coded× (leaves_code disk) (coded_option coded_ℕ))))
    (λ c. (c.opening, (c.log, (c.leaves, c.ticket))))
    (λ p. record { opening = p.0; log = p.1.0; leaves = p.1.1.0; ticket = p.1.1.1 }) (λ _. refl)
