use Rattle.std.proofs.Common.{rules}
use Rattle.test_effects.proofs.Computing.{by_steps}
use Rattle.test_effects.proofs.control.lend.Goals as goal

-- row by row, since together they take more steps than one search may
pub returns : goal.returns
unfolding by_steps
returns c = (
  search rules,
  (
    search rules,
    (
      search rules,
      (
        search rules,
        (
          search rules,
          (
            search rules,
            (
              search rules,
              (
                search rules,
                (
                  search rules,
                  (
                    search rules,
                    (
                      search rules,
                      (search rules, (search rules, (search rules, (search rules, tt)))),
                    ),
                  ),
                ),
              ),
            ),
          ),
        ),
      ),
    ),
  ),
)
