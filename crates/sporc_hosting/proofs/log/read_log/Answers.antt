use Rattle.std.proofs.Common.{ℕ, List, Option, None, Some, Err, Ok, ◌∙◌, ap, sym, subst}
use Rattle.sporc_hosting.proofs.Common.{option_map, use_of, Vec, err_from_is_err_and, OrderModel, file_name, SaysFileIfThere, any_bytes, AnswersUnlessOutside, logged_in, tells_memory}
use Rattle.sporc_files.specs.declared.file.File.TheVariants as files
use Rattle.sporc_hosting.proofs.Logs.{log_fails, log_read, no_log, order_is}
use Rattle.sporc_hosting.proofs.log.read_log.Goals as goal

pub returns-in_err-log-clause-found : goal.returns-in_err-log-clause-found
returns-in_err-log-clause-found g c =
    let failed = err_from_is_err_and c.from_residual.result c.from_residual.ensures.1 in
    log_fails (use_of g.F.Folder.told c.args.files.now c.read_if_there.new.files) c.args.names.now c.args.genesis c.in_err-log.field-0.0 _
    (failed.1 ∙ ap Err failed.2) (λ other same. c.in_err-log.ensures.there other (ap Err same)) c.in_err-log.ensures.err

pub returns-in-Some-clause-found : goal.returns-in-Some-clause-found
returns-in-Some-clause-found g c =
    log_read (use_of g.F.Folder.told c.args.files.now c.read_if_there.new.files) c.args.names.now c.args.genesis c.in-Some.bytes.items _
    (subst (λ (l : Option (Vec ℕ)). SaysFileIfThere any_bytes (g.F.Folder.told c.args.files.now).files (file_name c.args.names.now files.Log) (option_map (λ (bytes : Vec ℕ). bytes.items) l)) c.in-Some.is c.in_ok-log.ensures.ok)
    (subst (λ (b : List ℕ). AnswersUnlessOutside (λ (order : OrderModel). order) ⊥ c.order_of.result (logged_in c.args.genesis b)) c.as_slice.ensures.value c.order_of.ensures.value)

pub returns-in_err-order-in-None-clause-found : goal.returns-in_err-order-in-None-clause-found
returns-in_err-order-in-None-clause-found g c =
    let failed = err_from_is_err_and c.from_residual-in_err-order-in-None.result c.from_residual-in_err-order-in-None.ensures.1 in
    no_log (use_of g.F.Folder.told c.args.files.now c.read_if_there.new.files) c.args.names.now c.args.genesis _
    (subst (λ (l : Option (Vec ℕ)). SaysFileIfThere any_bytes (g.F.Folder.told c.args.files.now).files (file_name c.args.names.now files.Log) (option_map (λ (bytes : Vec ℕ). bytes.items) l)) c.in-None.is c.in_ok-log.ensures.ok)
    (tells_memory (λ (order : OrderModel). order) _ _ _ (failed.1 ∙ ap Err failed.2))

pub returns-in_ok-order-in-None-clause-found : goal.returns-in_ok-order-in-None-clause-found
returns-in_ok-order-in-None-clause-found g c =
    no_log (use_of g.F.Folder.told c.args.files.now c.read_if_there.new.files) c.args.names.now c.args.genesis (Ok c.in_ok-order-in-None.order)
    (subst (λ (l : Option (Vec ℕ)). SaysFileIfThere any_bytes (g.F.Folder.told c.args.files.now).files (file_name c.args.names.now files.Log) (option_map (λ (bytes : Vec ℕ). bytes.items) l)) c.in-None.is c.in_ok-log.ensures.ok)
    (ap Ok (sym (order_is c.in_ok-order-in-None.order c.args.genesis c.in_ok-order-in-None.ensures.genesis c.in_ok-order-in-None.ensures.empty)))

pub returns-in_err-log-clause-reads : goal.returns-in_err-log-clause-reads
returns-in_err-log-clause-reads g c = c.in_err-log.ensures.reads

pub returns-in-Some-clause-reads : goal.returns-in-Some-clause-reads
returns-in-Some-clause-reads g c = c.in_ok-log.ensures.reads

pub returns-in_err-order-in-None-clause-reads : goal.returns-in_err-order-in-None-clause-reads
returns-in_err-order-in-None-clause-reads g c = c.in_ok-log.ensures.reads

pub returns-in_ok-order-in-None-clause-reads : goal.returns-in_ok-order-in-None-clause-reads
returns-in_ok-order-in-None-clause-reads g c = c.in_ok-log.ensures.reads
