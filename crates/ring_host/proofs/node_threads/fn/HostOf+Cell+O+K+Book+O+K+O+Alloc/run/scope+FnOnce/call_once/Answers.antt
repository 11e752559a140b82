use Rattle.ring_host.proofs.node_threads.fn.HostOf+Cell+O+K+Book+O+K+O+Alloc.run.scope+FnOnce.call_once.Goals as goal

pub scope-requires : goal.scope-requires
scope-requires g c =
    let b = c.requires.1.1.1.1.1.1 in (
      record { owned = b.0.owned; leaving = b.0.leaving },
      (
        record { owned = b.1.owned; leaving = b.1.leaving },
        (
          record { owned = b.2.owned; leaving = b.2.leaving },
          (
            record { shared = b.3.shared },
            (
              record { shared = b.4.shared },
              (
                record { shared = b.5.shared },
                (
                  record { shared = b.6.shared },
                  (
                    record { frees = b.7.frees },
                    c.requires.1.1.1.1.1.0,
                  ),
                ),
              ),
            ),
          ),
        ),
      ),
    )
