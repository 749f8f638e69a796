-- What a handle owns says the same to every thread.
use mir.Raw.{raw}
use base.Shift.{Keyless}
use denote.Memory.{lone}
use denote.RawPtr.{Ptr, block_ptr, null_ptr}
use denote.Param.Send.{IsSend, part_keyless}
use base.Fraction.{full_share}
use Rattle.std.proofs.Crossing.{frees}
use Rattle.std.proofs.alloc.Global.TheSendSync as global
use Rattle.std.specs.declared.alloc.Global.{Global}
use Rattle.simplex_handle.specs.Held.{Held, holds}
use Rattle.simplex_handle.proofs.Handles.{Auditor}
use Rattle.simplex_handle.proofs.auditor.AnyAuditor.TheSendSync as auditor
use Rattle.simplex_handle.specs.contracts.handle.Handle.{the_row}

holds_keyless : (a : Global) (at : Ptr) (held : Held) → Keyless (holds a at held)
holds_keyless a null_ptr held = tt
holds_keyless a (block_ptr b o) held =
    λ one. (
      tt,
      (
        part_keyless Auditor auditor.the_send full_share one b o,
        frees.frees a (raw (lone Auditor.mir)) (block_ptr b o),
      ),
    )

pub send : IsSend the_row
send = record {
  owned = λ h vs. ((λ vss. (tt, (tt, (global.the_field_send.owned _ vss.1.0, tt)))), holds_keyless h.alloc h.at h.held);
  leaving = λ k d w. tt;
}
