use Rattle.std.proofs.Common.{subst}
use Rattle.sat_watch.specs.Lists.{WatchState, StandsWhereWatched, WatchedStands, StandsOnce}
use Rattle.sat_watch.proofs.ListedClauses.{stands_where_watched, watched_stands, stands_once}
use Rattle.sat_watch.proofs.watch_lists.WatchLists.stand_once.Goals.{After-self}
use Rattle.sat_watch.proofs.watch_lists.WatchLists.stand_once.Goals as goal

abbrev state : After-self → WatchState
state c = record { vars = c.self.inside.vars; heads = c.self.inside.heads.now; watches = c.self.inside.watches.now }

pub returns-clause-where_watched : goal.returns-clause-where_watched
returns-clause-where_watched c = subst StandsWhereWatched c.self.view_is (stands_where_watched (state c) c.self.invariant)

pub returns-clause-watched : goal.returns-clause-watched
returns-clause-watched c = subst WatchedStands c.self.view_is (watched_stands (state c) c.self.invariant)

pub returns-clause-once : goal.returns-clause-once
returns-clause-once c = subst StandsOnce c.self.view_is (stands_once (state c) c.self.invariant)
