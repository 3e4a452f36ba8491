-- What the functions of the library owe: the call that was asked for, and its answer, value, count and table as a C program gets them.
pub mod Report
