-- The first message of a session.
use Rattle.std.proofs.Common.{◌≡◌, ℕ, ◌≤◌, List, [], ◌++◌, Option, Some, None, Result, Ok, Err, false, refl, sym, subst, arith}
use Rattle.sporc_serve.proofs.Common.{Consumes, Consumes-nil, Consumes-trans, Genesis, Known, ToServer, Unread, HandsOut, stream_of, fed, to_server_of, SessionEnd, Item, Inlet, inlet, IsNext, Waits}
use Rattle.sporc_serve.proofs.Common.{ReadsFirst, stand, ServerTrace, HandsOut-fed}
use Rattle.sporc_serve.proofs.Tracing.{trace_begins, trace_taken}

-- nothing was taken yet
pub waits_none : (left : Option (List ℕ)) (faults : ℕ) (unread : Unread) → unread ≡ stream_of [] → Waits (inlet left faults unread) (inlet left faults unread) []
waits_none left faults unread fresh = record {
  taken = Consumes-nil left;
  reads = subst (λ (u : Unread). HandsOut to_server_of (stream_of []) [] u) (sym fresh) refl;
  faults = omega arith;
}

module _ (a b c : Inlet) (bytes : List ℕ) (r : Result (Option ToServer) SessionEnd) (waits : Waits a b bytes) (found : IsNext b c r) (more : b.faults ≤ c.faults) where
  -- a piece more was taken
  pub waits_more : r ≡ Ok None → (all : List ℕ) × Waits a c all
  waits_more is =
      let h = subst (λ (x : Result (Option ToServer) SessionEnd). IsNext b c x) is found in (
        bytes ++ h.0,
        record {
          taken = Consumes-trans a.left b.left c.left bytes h.0 waits.taken h.1.taken;
          reads = subst (λ (u : Unread). HandsOut to_server_of (stream_of (bytes ++ h.0)) [] u) (sym h.1.unread)
              (HandsOut-fed to_server_of (stream_of bytes) h.0 [] b.unread waits.reads);
          faults = omega (arith, waits.faults, more);
        },
      )

  -- a message was found
  pub first_found : (m : ToServer) → r ≡ Ok (Some m) → ReadsFirst a c (Ok m)
  first_found m is = (b, bytes, waits, more, subst (λ (x : Result (Option ToServer) SessionEnd). IsNext b c x) is found)

  -- none is to follow
  pub first_ends : (end : SessionEnd) → r ≡ Err end → ReadsFirst a c (Err end)
  first_ends end is = (b, bytes, waits, more, subst (λ (x : Result (Option ToServer) SessionEnd). IsNext b c x) is found)

-- a session that waited for its first message
pub trace_waits : (g : Genesis) (known : Known Item) (written : Option (List ℕ)) (a b : Inlet) (bytes : List ℕ) → Waits a b bytes
    → ServerTrace g (stand known a.left written a.faults (stream_of []) false) (stand known b.left written b.faults b.unread false) bytes []
trace_waits g known written a b bytes waits =
    let start = stand known a.left written a.faults (stream_of []) false in
    trace_taken g start start [] bytes [] b.left b.faults b.unread (trace_begins g known a.left written a.faults) waits.taken waits.reads waits.faults
