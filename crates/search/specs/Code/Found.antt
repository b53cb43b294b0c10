-- What the search answers (document 01, "The search", rules 2 to 6).
use Rattle.std.specs.Prelude.{ℕ}
use Rattle.search.specs.Golden.{State, after, steps_of}
use Rattle.search.specs.declared.Search.{Search}

-- the search about entry m with so many steps allowed: the state, the best point's distance and the steps counted
unfoldable pub found : (ℕ → ℕ) → ℕ → ℕ → Search
found d m max_steps =
    let s : State = after d m (steps_of max_steps) in
    record { low = s.low; high = s.high; best = s.best; distance = d s.best; steps = steps_of max_steps }
