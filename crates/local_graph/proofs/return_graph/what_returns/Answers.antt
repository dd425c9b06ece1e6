use Rattle.local_graph.proofs.return_graph.what_returns.Goals as goal

pub returns : goal.returns
returns c =
    let black = rw c.deref.ensures.value at c.in_ok-black_order.ensures in
    let white = rw c.deref-2.ensures.value at c.in_ok-white_order.ensures in
    record { components = c.in_ok-components.ensures; black_order = black c.args.edges.now; white_order = white c.args.edges.now }
