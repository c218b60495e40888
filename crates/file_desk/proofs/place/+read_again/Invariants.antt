use Rattle.file_desk.proofs.place.+read_again.Given as goal

-- the tries that are left
abbrev pub decreases-read_again : goal.decreases-read_again
decreases-read_again g l = l.tries
