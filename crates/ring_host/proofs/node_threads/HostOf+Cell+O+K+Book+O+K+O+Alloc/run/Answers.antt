use mir.Syntax.{of_param}
use denote.Exit.{unseen}
use denote.Param.Send.{Quiet-if}
use Rattle.ring_host.proofs.node_threads.HostOf+Cell+O+K+Book+O+K+O+Alloc.run.Goals as goal

-- The requirement of the thread scope: other threads may use the host, the gate and the runtime.
pub scoped-requires : goal.scoped-requires
scoped-requires g c =
    let b = c.type_bounds in
    record {
      at = λ a. (
        c.requires,
        (
          record { owned = b.send-O.owned; leaving = λ k. Quiet-if (k (of_param 0)) unseen unseen (λ x w. tt) (λ x w. tt) },
          record { owned = b.send-K.owned; leaving = λ k. Quiet-if (k (of_param 1)) unseen unseen (λ x w. tt) (λ x w. tt) },
          record { owned = b.send-O-Alloc.owned; leaving = b.send-O-Alloc.leaving },
          record { shared = b.sync-K.shared },
          record { shared = b.sync-O-Alloc.shared },
          record { shared = b.sync-W.shared },
          record { shared = b.sync-G.shared },
          record { frees = b.frees-O-Alloc-Allocator.frees },
        ),
      );
    }
