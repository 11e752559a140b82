use Rattle.ring_client_tests.proofs.crowded.fn.run.scope+FnOnce.call_once.Goals as goal

pub scope-requires : goal.scope-requires
scope-requires g c =
    let seats = c.requires.1.1.1.1.1.0 in
    let b = c.requires.1.1.1.1.1.1 in (
      record { owned = b.0.owned; leaving = b.0.leaving },
      (
        record { owned = b.1.owned; leaving = b.1.leaving },
        (
          record { owned = b.2.owned; leaving = b.2.leaving },
          (
            record { shared = b.3.shared },
            (record { shared = b.4.shared }, (record { shared = b.5.shared }, (record { shared = b.6.shared }, (record { frees = b.7.frees }, seats)))),
          ),
        ),
      ),
    )
