-- What the internal functions are handed.
use Rattle.machine_state.specs.HeldProgram.{program_of, sizes_of}
use Rattle.machine_state.specs.HeldState.{whole}
use Rattle.file_reader.specs.declared.Routine.{Routine}
use Rattle.nearest_search.specs.Search.{Searched, search}

-- what the search says of the routine that the code's arrays hold
abbrev pub search_in : Routine → Searched
search_in x = search (program_of x.code) x.budget (whole (sizes_of x.code) x.blocks x.start)
