use mir.Syntax.{of_param}
use denote.Exit.{unseen}
use denote.Param.Send.{Quiet-if}
use Rattle.ring_client_tests.proofs.crowded.run.Goals as goal

pub scoped-ran-requires : goal.scoped-ran-requires
scoped-ran-requires g c =
    let b = c.type_bounds in
    record {
      at = λ a. (
        c.requires,
        (
          record { owned = b.send-O.owned; leaving = λ k. Quiet-if (k (of_param 0)) unseen unseen (λ x w. tt) (λ x w. tt) },
          record { owned = b.send-K.owned; leaving = λ k. Quiet-if (k (of_param 1)) unseen unseen (λ x w. tt) (λ x w. tt) },
          record { owned = b.send-O-Alloc.owned; leaving = b.send-O-Alloc.leaving },
          record { shared = b.sync-K.shared },
          record { shared = b.sync-W.shared },
          record { shared = b.sync-G.shared },
          record { shared = b.sync-O-Alloc.shared },
          record { frees = b.frees-O-Alloc-Allocator.frees },
        ),
      );
    }
