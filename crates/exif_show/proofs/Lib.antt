pub mod ProgramSaying
